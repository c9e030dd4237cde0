-- A body that was read is the text of its frame, and a body that is no frame's is at fault by BadBody alone.
use Rattle.std.proofs.Common.{◌≡◌, ℕ, Bool, true, false, cond, eqb, List, [], ◌∷◌, ◌++◌, Option, Some, None, refl, sym, ap, ◌∙◌}
use Rattle.std.specs.Int.{w32, w64}
use Rattle.std.proofs.lemmas.Bool.{eqb-true}
use Rattle.byte_codec.specs.Field.{AreBytes, number_bytes}
use Rattle.byte_codec.proofs.FieldLaws.{number_found, two_back, four_back, eight_back}
use Rattle.byte_codec.proofs.YieldLemmas.{Only, Yields, Value, then_yields}
use Rattle.takeover_core.specs.declared.message.Message.{Message}
use Rattle.frames.specs.declared.fault.FrameFault.TheVariants.{BadBody}
use Rattle.frames.specs.declared.frame.Frame.{Frame}
use Rattle.frames.specs.declared.kind.FrameKind.{FrameKind}
use Rattle.frames.specs.declared.kind.FrameKind.TheVariants as kinds
use Rattle.frames.specs.declared.kind.MessageKind.{MessageKind}
use Rattle.frames.specs.declared.kind.MessageKind.TheVariants as messages
use Rattle.frames.specs.FrameText.{Fits, FitsMessage, body_of, kind_of, message_body, message_kind}
use Rattle.frames.specs.Kind.{first_with, kind_with, message_kind_with, message_kinds, message_number, number_of, of_takeover, plain_kinds}
use Rattle.frames.specs.Reading.{frame_of, message_of}
use Rattle.frames.proofs.FoundFields.{alone_yields, nothing_yields, versions_yield}

-- a message of a kind and a body
pub record IsMessageOf (kind : MessageKind) (body : List ℕ) (message : Message) : Type 0 where
  pub kind_is : message_kind message ≡ kind
  pub body_is : message_body message ≡ body
  pub fits : FitsMessage message

message_yields : (kind : MessageKind) (body : List ℕ) → AreBytes body → Yields (Only BadBody) (IsMessageOf kind body) (message_of kind body)
unfolding message_of
message_yields messages.Offer body are = then_yields _ _ (versions_yield body are) (λ versions is. Value (record { kind_is = refl; body_is = is.text; fits = (is.few, is.fit) }))
message_yields messages.Choice body are =
    then_yields _ _ (number_found BadBody body refl four_back are) (λ session first.
    then_yields _ _ (alone_yields two_back session.1 first.rest) (λ version last.
    Value (record { kind_is = refl; body_is = ap (λ (t : List ℕ). number_bytes w32 session.0 ++ t) last.text ∙ sym first.parts; fits = (first.good, last.fits) })))
message_yields messages.NoCommon body are = then_yields _ _ (nothing_yields body) (λ _ is. Value (record { kind_is = refl; body_is = is; fits = tt }))
message_yields messages.Busy body are = then_yields _ _ (nothing_yields body) (λ _ is. Value (record { kind_is = refl; body_is = is; fits = tt }))
message_yields messages.Ready body are =
    then_yields _ _ (number_found BadBody body refl four_back are) (λ session first.
    then_yields _ _ (alone_yields eight_back session.1 first.rest) (λ generation last.
    Value (record { kind_is = refl; body_is = ap (λ (t : List ℕ). number_bytes w32 session.0 ++ t) last.text ∙ sym first.parts; fits = (first.good, last.fits) })))
message_yields messages.Pong body are = then_yields _ _ (alone_yields four_back body are) (λ session is. Value (record { kind_is = refl; body_is = is.text; fits = is.fits }))
message_yields messages.Data body are =
    then_yields _ _ (number_found BadBody body refl four_back are) (λ session first.
    then_yields _ _ (number_found BadBody session.1 refl eight_back first.rest) (λ generation second.
    Value (record { kind_is = refl; body_is = ap (λ (t : List ℕ). number_bytes w32 session.0 ++ t) (sym second.parts) ∙ sym first.parts; fits = (first.good, second.good) })))
message_yields messages.Part body are =
    then_yields _ _ (number_found BadBody body refl four_back are) (λ session first.
    then_yields _ _ (number_found BadBody session.1 refl eight_back first.rest) (λ generation second.
    then_yields _ _ (number_found BadBody generation.1 refl four_back second.rest) (λ position third.
    then_yields _ _ (number_found BadBody position.1 refl four_back third.rest) (λ count last.
    Value (record {
      kind_is = refl;
      body_is =
          ap (λ (t : List ℕ). number_bytes w32 session.0 ++ (number_bytes w64 generation.0 ++ (number_bytes w32 position.0 ++ t))) (sym last.parts)
          ∙ ap (λ (t : List ℕ). number_bytes w32 session.0 ++ (number_bytes w64 generation.0 ++ t)) (sym third.parts)
          ∙ ap (λ (t : List ℕ). number_bytes w32 session.0 ++ t) (sym second.parts)
          ∙ sym first.parts;
      fits = (first.good, second.good, third.good, last.good);
    })))))
message_yields messages.Failed body are = then_yields _ _ (alone_yields four_back body are) (λ session is. Value (record { kind_is = refl; body_is = is.text; fits = is.fits }))

-- a frame of a kind and a body
pub record IsFrameOf (kind : FrameKind) (body : List ℕ) (frame : Frame) : Type 0 where
  pub kind_is : kind_of frame ≡ kind
  pub body_is : body_of frame ≡ body
  pub fits : Fits frame

pub frame_yields : (kind : FrameKind) (body : List ℕ) → AreBytes body → Yields (Only BadBody) (IsFrameOf kind body) (frame_of kind body)
unfolding frame_of
frame_yields kinds.Take body are = then_yields _ _ (alone_yields eight_back body are) (λ n is. Value (record { kind_is = refl; body_is = is.text; fits = is.fits }))
frame_yields kinds.Ask body are = Value (record { kind_is = refl; body_is = refl; fits = tt })
frame_yields kinds.Empty body are = then_yields _ _ (nothing_yields body) (λ _ is. Value (record { kind_is = refl; body_is = is; fits = tt }))
frame_yields kinds.Post body are = then_yields _ _ (number_found BadBody body refl eight_back are) (λ generation is. Value (record { kind_is = refl; body_is = sym is.parts; fits = is.good }))
frame_yields kinds.Posted body are = then_yields _ _ (nothing_yields body) (λ _ is. Value (record { kind_is = refl; body_is = is; fits = tt }))
frame_yields kinds.Ended body are = then_yields _ _ (nothing_yields body) (λ _ is. Value (record { kind_is = refl; body_is = is; fits = tt }))
frame_yields kinds.Stale body are = then_yields _ _ (alone_yields eight_back body are) (λ n is. Value (record { kind_is = refl; body_is = is.text; fits = is.fits }))
frame_yields kinds.NotAsked body are = then_yields _ _ (nothing_yields body) (λ _ is. Value (record { kind_is = refl; body_is = is; fits = tt }))
frame_yields kinds.Claim body are = then_yields _ _ (alone_yields eight_back body are) (λ n is. Value (record { kind_is = refl; body_is = is.text; fits = is.fits }))
frame_yields kinds.Claimed body are = then_yields _ _ (alone_yields eight_back body are) (λ n is. Value (record { kind_is = refl; body_is = is.text; fits = is.fits }))
frame_yields kinds.Unanswered body are = then_yields _ _ (alone_yields eight_back body are) (λ n is. Value (record { kind_is = refl; body_is = is.text; fits = is.fits }))
frame_yields kinds.LastGeneration body are = then_yields _ _ (nothing_yields body) (λ _ is. Value (record { kind_is = refl; body_is = is; fits = tt }))
frame_yields kinds.Mount body are = then_yields _ _ (nothing_yields body) (λ _ is. Value (record { kind_is = refl; body_is = is; fits = tt }))
frame_yields kinds.Mounted body are = then_yields _ _ (alone_yields eight_back body are) (λ n is. Value (record { kind_is = refl; body_is = is.text; fits = is.fits }))
frame_yields kinds.Seated body are = then_yields _ _ (nothing_yields body) (λ _ is. Value (record { kind_is = refl; body_is = is; fits = tt }))
frame_yields kinds.Attach body are = then_yields _ _ (alone_yields eight_back body are) (λ n is. Value (record { kind_is = refl; body_is = is.text; fits = is.fits }))
frame_yields kinds.Attached body are = then_yields _ _ (alone_yields eight_back body are) (λ n is. Value (record { kind_is = refl; body_is = is.text; fits = is.fits }))
frame_yields (kinds.Takeover kind) body are =
    then_yields _ _ (message_yields kind body are) (λ message is. Value (record { kind_is = ap (λ (k : MessageKind). kinds.Takeover k) is.kind_is; body_is = is.body_is; fits = is.fits }))

-- ---- numbers of kinds

some_is : {K : Type 0} (x y : K) → Some x ≡ Some y → x ≡ y
some_is x y e = cc

by_test : {K : Type 0} (number : K → ℕ) (n : ℕ) (b : Bool) (first kind : K) (others : Option K) → (b ≡ true → n ≡ number first) → (others ≡ Some kind → n ≡ number kind) → cond b (Some first) others ≡ Some kind → n ≡ number kind
by_test number n true first kind others same later e = same refl ∙ ap number (some_is first kind e)
by_test number n false first kind others same later e = later e

-- a kind that was found has the number, if what is left does
first_has : {K : Type 0} (number : K → ℕ) (n : ℕ) (those : List K) (left : Option K) (kind : K) → (left ≡ Some kind → n ≡ number kind) → first_with number n those left ≡ Some kind → n ≡ number kind
first_has number n [] left kind is e = is e
first_has number n (first ∷ those) left kind is e =
    by_test number n (eqb n (number first)) first kind (first_with number n those left) (eqb-true n (number first)) (first_has number n those left kind is) e

message_number_found : (n : ℕ) (kind : MessageKind) → message_kind_with n ≡ Some kind → n ≡ message_number kind
unfolding message_kind_with
message_number_found n kind e = first_has message_number n message_kinds None kind (λ none. absurd cc) e

takeover_found : (n : ℕ) (found : Option MessageKind) (kind : FrameKind) → ((its : MessageKind) → found ≡ Some its → n ≡ message_number its) → of_takeover found ≡ Some kind → n ≡ number_of kind
takeover_found n None kind is e = absurd cc
takeover_found n (Some its) kind is e = is its refl ∙ ap number_of (some_is (kinds.Takeover its) kind e)

pub number_found_again : (n : ℕ) (kind : FrameKind) → kind_with n ≡ Some kind → n ≡ number_of kind
unfolding kind_with
number_found_again n kind e =
    first_has number_of n plain_kinds (of_takeover (message_kind_with n)) kind (takeover_found n (message_kind_with n) kind (message_number_found n)) e
