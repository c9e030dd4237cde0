-- A reply and a Take behind it that were written together are a Post and then a Take.
use Rattle.std.proofs.Common.{◌≡◌, ℕ, List, [], Option, Some, None, Ok, Err, refl, sym, ap, subst, ◌∙◌, inl, inr, arith}
use Rattle.std.proofs.KnownBytes.{Appends-kept, Consumes-nil}
use Rattle.std.specs.Io.KnownBytes.{Appends, Keeps}
use Rattle.broker_core.specs.declared.fault.TakeFault.{TakeFault}
use Rattle.frames.specs.declared.answer.BrokerAnswer.{BrokerAnswer}
use Rattle.frames.specs.declared.answer.BrokerAnswer.TheVariants as answers
use Rattle.frames.specs.declared.fault.FrameFault.TheVariants.{Read}
use Rattle.frames.specs.declared.frame.Frame.{Frame}
use Rattle.frames.specs.Answer.{IsAnswer, answer_of}
use Rattle.fuse_wire.specs.declared.reply.Reply.{Reply}
use Rattle.links.specs.Channel.{Answers, Asks, BreaksBoth, ConnectionState, Heard, Hears, HearsFrame, HearsNext, IsAnswered, NotHeard, PostsAlone, PostsAndTakes, ReadsAnswer, SendsBoth, Takes, Unanswered, Unheard, ended_by, post_of, posted_of, take_of, text_of}
use Rattle.links.specs.Reading.{Gives, GivesAnswer, Took}
use Rattle.links.specs.Writing.{Sends}
use Rattle.links.proofs.ChannelLaws.{answered, hears_frame}
use Rattle.links.proofs.ReadingLaws.{few_fault}
use Rattle.workers.specs.declared.channel.NextAsk.{NextAsk}
use Rattle.workers.specs.declared.channel.NextAsk.TheVariants as took
use Rattle.workers.specs.declared.channel.Posted.{Posted}
use Rattle.workers.specs.declared.channel.Posted.TheVariants as post

-- nothing was read
pub read_nothing : (known : Option (List ℕ)) (body : List ℕ) → ReadsAnswer None body known known
read_nothing known body =
    (Err Read, tt, few_fault known known (record { bytes = []; taken = Consumes-nil known; holds = omega (arith) }))

-- what an answer was read by, where reading did not fail
pub read_well :
    (old new : Option (List ℕ)) (body : List ℕ) (answer : Option BrokerAnswer) →
    Took old new (λ bytes. GivesAnswer bytes new body (Ok answer)) → ReadsAnswer answer body old new
read_well old new body (Some answer) read = read
read_well old new body None read = (Ok None, tt, read)

-- what was written is out
pub sends_kept : (old mid new : Option (List ℕ)) (frame : Frame) → Sends old mid frame → Keeps mid new → Sends old new frame
sends_kept old mid new frame sends kept = record {
  text = sends.text;
  is_text = sends.is_text;
  written = Appends-kept old mid new sends.text sends.written kept;
}

-- the answer to a frame that was written before, as it was read
pub answers_by :
    (old mid new : ConnectionState) (said : Frame) (answer : Option BrokerAnswer) (body : List ℕ) →
    mid ≡ record old { outgoing = mid.outgoing } → Sends old.outgoing mid.outgoing said → HearsFrame mid answer body new →
    Answers old said answer body new
answers_by old mid new said (Some answer) body same sends heard =
    answered old new said answer body
    (heard.generation ∙ ap (λ (s : ConnectionState). s.generation) same)
    (heard.ended ∙ ap (λ (s : ConnectionState). s.ended) same)
    (heard.ahead ∙ ap (λ (s : ConnectionState). s.ahead) same)
    (sends_kept old.outgoing mid.outgoing new.outgoing said sends heard.sent)
    (subst (λ (i : Option (List ℕ)). Took i new.incoming (λ bytes. IsAnswer bytes body answer))
    (ap (λ (s : ConnectionState). s.incoming) same) heard.read)
answers_by old mid new said None body same sends heard =
    let read = heard.read in
    NotHeard read.0 (sends_kept old.outgoing mid.outgoing new.outgoing said sends heard.sent) read.1
    (subst (λ (i : Option (List ℕ)). Took i new.incoming (λ bytes. Gives bytes new.incoming read.0)) (ap (λ (s : ConnectionState). s.incoming) same) read.2)

-- a reply that is posted leaves what was noted of the end
noted_still : (answer : BrokerAnswer) (noted : _) → posted_of answer ≡ post.Done → ended_by answer noted ≡ noted
noted_still answers.Posted noted is = refl
noted_still answers.Ask noted is = absurd (let none : ⊥ = cc in none)
noted_still answers.Empty noted is = absurd (let none : ⊥ = cc in none)
noted_still answers.Ended noted is = absurd (let none : ⊥ = cc in none)
noted_still (answers.Stale now) noted is = absurd (let none : ⊥ = cc in none)
noted_still answers.Other noted is = absurd (let none : ⊥ = cc in none)

module _ (old sent read : ConnectionState) (reply : Reply) (answer : BrokerAnswer) (body : List ℕ)
    (both : SendsBoth old reply sent) (heard : HearsFrame sent (Some answer) body read) (well : posted_of answer ≡ post.Done) where
  -- the channel as the Post alone left it
  abbrev between : ConnectionState
  between = record {
    generation = old.generation;
    ended = old.ended;
    ahead = old.ahead;
    incoming = read.incoming;
    outgoing = both.between;
  }

  -- the channel once the answer to the Post was read
  abbrev settled : ConnectionState
  settled = record read { ended = ended_by answer read.ended }

  generation_still : settled.generation ≡ old.generation
  generation_still = heard.generation ∙ ap (λ (s : ConnectionState). s.generation) both.same

  ended_still : settled.ended ≡ old.ended
  ended_still = noted_still answer read.ended well ∙ heard.ended ∙ ap (λ (s : ConnectionState). s.ended) both.same

  ahead_still : settled.ahead ≡ old.ahead
  ahead_still = heard.ahead ∙ ap (λ (s : ConnectionState). s.ahead) both.same

  take_sent : Sends both.between settled.outgoing (take_of old)
  take_sent = sends_kept both.between sent.outgoing read.outgoing (take_of old) both.take heard.sent

  answered_post : IsAnswered old between (post_of old reply) answer body
  answered_post = answered old between (post_of old reply) answer body refl refl refl both.post
      (subst (λ (i : Option (List ℕ)). Took i read.incoming (λ bytes. IsAnswer bytes body answer))
      (ap (λ (s : ConnectionState). s.incoming) both.same) heard.read)

  posted : PostsAlone old reply post.Done between
  posted =
      let is = answered_post in
      let told : answer ≡ answer_of is.heard = is.is_told in
      let by_frame : ended_by (answer_of is.heard) old.ended ≡ old.ended =
      ap (λ (a : BrokerAnswer). ended_by a old.ended) (sym told) ∙ noted_still answer old.ended well in
      let P : Option TakeFault → Type 0 = λ e. between ≡ record between { ended = e } in
      inl (between, is.heard, is.exchanged, (sym (ap posted_of (sym told) ∙ well), subst P (sym by_frame) refl))

  asked : (later : ConnectionState) (next : NextAsk) → HearsNext settled next later → Asks between next later
  asked later next (inl (mid, second, text, frame, hears)) =
      let is = answered between mid (take_of between) second text
      (frame.generation ∙ generation_still) (frame.ended ∙ ended_still) (frame.ahead ∙ ahead_still)
      (sends_kept both.between settled.outgoing mid.outgoing (take_of old) take_sent frame.sent) frame.read in
      Heard mid is.heard is.exchanged (hears_frame mid later second text is.heard next is.is_told is.has_body hears)
  asked later next (inr (broken, (text, frame))) =
      let none = frame.read in
      subst (λ (t : NextAsk). Asks between t later) (sym broken)
      (Unheard (NotHeard none.0 (sends_kept both.between settled.outgoing later.outgoing (take_of old) take_sent frame.sent) none.1 none.2))

  -- the reply was posted, and the result of the Take behind it is kept
  pub posted_and_taken :
      (said : Posted) → said ≡ post.Done → (noted : Option TakeFault) → noted ≡ ended_by answer read.ended →
      (later new : ConnectionState) (next : NextAsk) → HearsNext (record read { ended = noted }) next later →
      new ≡ record later { ahead = Some next } → PostsAndTakes old reply said new
  posted_and_taken said done noted same later new next hears is =
      let P : Option TakeFault → Type 0 = λ e. HearsNext (record read { ended = e }) next later in
      subst (λ (s : Posted). PostsAndTakes old reply s new) (sym done)
      (between, later, next, posted, asked later next (subst P same hears), is)

-- the reply was not posted, and nothing was taken
pub not_posted :
    (old sent heard new : ConnectionState) (reply : Reply) (answer : BrokerAnswer) (body : List ℕ) (said : Posted) →
    SendsBoth old reply sent → HearsFrame sent (Some answer) body heard → said ≡ posted_of answer → (said ≡ post.Done → ⊥) →
    (noted : Option TakeFault) → noted ≡ ended_by answer heard.ended → new ≡ record heard { ended = noted } →
    PostsAndTakes old reply said new
not_posted old sent heard new reply answer body post.Done both frame is not noted same so = absurd (not refl)
not_posted old sent heard new reply answer body post.Broken both frame is not noted same so =
    let P : Option TakeFault → Type 0 = λ e. new ≡ record heard { ended = e } in
    inr (sent, both, inr (heard, answer, body, frame, sym is, subst P same so))

-- an ask was taken: nothing was at hand, so that the broker was asked
pub takes_asked :
    (old new : ConnectionState) (taken : NextAsk) (left : Option NextAsk) → left ≡ None → None ≡ old.ahead →
    Asks (record old { ahead = left }) taken new → Takes old taken new
takes_asked old new taken left nothing none asks =
    let P : Option NextAsk → Type 0 = λ a. Asks (record old { ahead = a }) taken new in
    inr (sym none, subst P (nothing ∙ none) asks)
