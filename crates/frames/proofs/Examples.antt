-- Frames and streams whose bytes were written out by hand.
use Rattle.std.proofs.Common.{◌≡◌, [], ◌∷◌, Some, refl}
use Rattle.byte_codec.specs.Field.{number_in, number_bytes}
use Rattle.frames.specs.declared.fault.FrameFault.TheVariants.{TooLong, BadKind, BadBody}
use Rattle.frames.specs.declared.frame.Frame.TheVariants.{Claim}
use Rattle.frames.specs.FrameText.{frame_text}
use Rattle.frames.specs.Kind.{kind_with, message_kind_with}
use Rattle.frames.specs.Reading.{First, Faulty, NotYet, alone, frame_of, said}

claim_is : frame_text (Claim 1) ≡ Some (0 ∷ 0 ∷ 0 ∷ 8 ∷ 9 ∷ 0 ∷ 0 ∷ 0 ∷ 0 ∷ 0 ∷ 0 ∷ 0 ∷ 1 ∷ [])
unfolding number_bytes
claim_is = refl

claim_again : said (0 ∷ 0 ∷ 0 ∷ 8 ∷ 9 ∷ 0 ∷ 0 ∷ 0 ∷ 0 ∷ 0 ∷ 0 ∷ 0 ∷ 1 ∷ 5 ∷ []) ≡ First (Claim 1) (5 ∷ [])
unfolding said number_in kind_with frame_of alone
claim_again = refl

-- a body of 65,537 bytes
long_is : said (0 ∷ 1 ∷ 0 ∷ 1 ∷ []) ≡ Faulty TooLong
unfolding said number_in
long_is = refl

kind_200_is : said (0 ∷ 0 ∷ 0 ∷ 8 ∷ 200 ∷ []) ≡ Faulty BadKind
unfolding said number_in kind_with message_kind_with
kind_200_is = refl

claim_of_seven_is : said (0 ∷ 0 ∷ 0 ∷ 7 ∷ 9 ∷ 0 ∷ 0 ∷ 0 ∷ 0 ∷ 0 ∷ 0 ∷ 1 ∷ []) ≡ Faulty BadBody
unfolding said number_in kind_with frame_of alone
claim_of_seven_is = refl

three_are : said (0 ∷ 0 ∷ 0 ∷ []) ≡ NotYet
unfolding said
three_are = refl
