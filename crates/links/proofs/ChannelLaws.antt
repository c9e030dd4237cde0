-- A frame that was written and one that was read are an exchange.
use Rattle.std.proofs.Common.{◌≡◌, ℕ, Bool, true, false, cond, ltb, List, length, Option, Some, None, Ok, Err, sym, subst, ◌∙◌, append-nil}
use Rattle.std.specs.Io.KnownBytes.{Appends, Consumes}
use Rattle.frames.specs.declared.answer.BrokerAnswer.{BrokerAnswer}
use Rattle.frames.specs.declared.frame.Frame.{Frame}
use Rattle.frames.specs.Answer.{IsAnswer, answer_of}
use Rattle.frames.specs.FrameText.{body_of, frame_text, longest_body}
use Rattle.links.specs.Channel.{Asks, ConnectionState, Hears, IsAnswered, Heard, NoRoom, Unanswered, Unheard, take_of, text_of}
use Rattle.links.specs.Reading.{Took}
use Rattle.links.specs.Writing.{Sends}
use Rattle.workers.specs.declared.channel.NextAsk.{NextAsk}
use Rattle.workers.specs.declared.channel.NextAsk.TheVariants as took

by_length : (over : Bool) (text frame : List ℕ) → cond over None (Some frame) ≡ Some text → text ≡ frame
by_length true text frame e = absurd cc
by_length false text frame e = cc

its_text : (frame : Frame) (text : List ℕ) → frame_text frame ≡ Some text → text ≡ text_of frame
its_text frame text e = by_length (ltb longest_body (length (body_of frame))) text (text_of frame) e

pub sent : (old new : Option (List ℕ)) (frame : Frame) → Sends old new frame → Appends old new (text_of frame)
sent old new frame is = subst (Appends old new) (its_text frame is.text is.is_text) is.written

-- the text of a frame that was read as an answer
heard : (old new : Option (List ℕ)) (bytes body : List ℕ) (answer : BrokerAnswer) → Consumes old new bytes → (is : IsAnswer bytes body answer) → Consumes old new (text_of is.frame)
heard old new bytes body answer taken is =
    let first = is.is_first in
    subst (Consumes old new) (first.in_front ∙ append-nil first.text ∙ its_text is.frame first.text first.is_text) taken

-- what was written and then read is an exchange
pub answered : (old new : ConnectionState) (said : Frame) (answer : BrokerAnswer) (body : List ℕ) → new.generation ≡ old.generation → new.ended ≡ old.ended → new.ahead ≡ old.ahead → Sends old.outgoing new.outgoing said → Took old.incoming new.incoming (λ bytes. IsAnswer bytes body answer) → IsAnswered old new said answer body
answered old new said answer body generation ended ahead sends took = record {
  heard = took.holds.frame;
  exchanged = record {
    generation = generation;
    ended = ended;
    ahead = ahead;
    wrote = sent old.outgoing new.outgoing said sends;
    read = heard old.incoming new.incoming took.bytes body answer took.taken took.holds;
  };
  has_body = took.holds.has_body;
  is_told = took.holds.is_told;
}

-- ---- a look for an ask, from a state that making room left as it was

pub hears_frame : (mid new : ConnectionState) (answer : BrokerAnswer) (body : List ℕ) (heard : Frame) (taken : NextAsk) → answer ≡ answer_of heard → body_of heard ≡ body → Hears mid answer body taken new → Hears mid (answer_of heard) (body_of heard) taken new
hears_frame mid new answer body heard taken told its hears =
    let by_answer = subst (λ (a : BrokerAnswer). Hears mid a body taken new) told hears in
    subst (λ (t : List ℕ). Hears mid (answer_of heard) t taken new) (sym its) by_answer

pub asks_heard : (old start mid new : ConnectionState) (answer : BrokerAnswer) (body : List ℕ) (taken : NextAsk) → start ≡ old → IsAnswered start mid (take_of start) answer body → Hears mid answer body taken new → Asks old taken new
asks_heard old start mid new answer body taken same is hears =
    let P : ConnectionState → Type 0 = λ state. Asks state taken new in
    subst P same (Heard mid is.heard is.exchanged (hears_frame mid new answer body is.heard taken is.is_told is.has_body hears))

pub asks_unheard : (old start new : ConnectionState) → start ≡ old → Unanswered start (take_of start) new → Asks old took.Broken new
asks_unheard old start new same unanswered = let P : ConnectionState → Type 0 = λ state. Asks state took.Broken new in subst P same (Unheard unanswered)

pub asks_nothing : (old new : ConnectionState) → new ≡ old → Asks old took.Empty new
asks_nothing old new same = subst (Asks old took.Empty) (sym same) NoRoom
