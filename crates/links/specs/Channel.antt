-- A channel over a connection, as contracts see it, and what taking an ask and posting a reply do to it. (This
-- project's own.)
use Rattle.std.specs.Prelude.{◌≡◌, ◌⊎◌, ℕ, Bool, true, false, List, Option, Some, None, Result, Ok, Err}
use Rattle.std.specs.Io.KnownBytes.{Appends, Consumes, Keeps}
use Rattle.broker_core.specs.declared.fault.TakeFault.{TakeFault}
use Rattle.broker_core.specs.declared.fault.TakeFault.TheVariants as refused
use Rattle.frames.specs.declared.answer.BrokerAnswer.{BrokerAnswer}
use Rattle.frames.specs.declared.answer.BrokerAnswer.TheVariants as answers
use Rattle.frames.specs.declared.fault.FrameFault.{FrameFault}
use Rattle.frames.specs.declared.frame.Frame.{Frame}
use Rattle.frames.specs.declared.frame.Frame.TheVariants as frames
use Rattle.frames.specs.Answer.{IsAnswer, answer_of}
use Rattle.frames.specs.FrameText.{IsNotMemory, body_of, framed, kind_of}
use Rattle.fuse_wire.specs.FaultReply.{fault_reply_of}
use Rattle.fuse_wire.specs.ReplyText.{reply_text}
use Rattle.fuse_wire.specs.RequestReading.{request_of}
use Rattle.fuse_wire.specs.declared.fault.WireFault.{WireFault}
use Rattle.fuse_wire.specs.declared.reply.Reply.{Reply}
use Rattle.fuse_wire.specs.declared.request.Ask.{Ask}
use Rattle.links.specs.Reading.{Gives, Took}
use Rattle.links.specs.Writing.{Sends, Writes}
use Rattle.links.specs.declared.socket_channel.SocketChannel.{SocketChannel}
use Rattle.workers.specs.declared.channel.Posted.{Posted}
use Rattle.workers.specs.declared.channel.Posted.TheVariants as post
use Rattle.workers.specs.declared.channel.NextAsk.{NextAsk}
use Rattle.workers.specs.declared.channel.NextAsk.TheVariants as took

-- a channel: the generation at which it serves; why the broker has no more for it, if it said so; what it took together with its
-- last reply, if that waits to be taken; and, if they are known, the bytes that are to come in and those that went out
pub record ConnectionState : Type 0 where
  pub generation : ℕ
  pub ended : Option TakeFault
  pub ahead : Option NextAsk
  pub incoming : Option (List ℕ)
  pub outgoing : Option (List ℕ)

abbrev pub state_of : {R W : Type 0} → (R → Option (List ℕ)) → (W → Option (List ℕ)) →
    SocketChannel R W → ConnectionState
state_of remaining contents channel = record {
  generation = channel.generation;
  ended = channel.ended;
  ahead = channel.ahead;
  incoming = remaining channel.reader;
  outgoing = contents channel.writer;
}

-- the text of a frame that has one
abbrev pub text_of : Frame → List ℕ
text_of frame = framed (kind_of frame) (body_of frame)

-- one frame was written, and then another was read
pub record Exchanged (old new : ConnectionState) (said heard : Frame) : Type 0 where
  pub generation : new.generation ≡ old.generation
  pub ended : new.ended ≡ old.ended
  pub ahead : new.ahead ≡ old.ahead
  pub wrote : Appends old.outgoing new.outgoing (text_of said)
  pub read : Consumes old.incoming new.incoming (text_of heard)

-- reading gave no frame, and that isn't for memory
abbrev pub IsNoFrame : Result (Option Frame) FrameFault → Type 0
IsNoFrame (Ok (Some frame)) = ⊥
IsNoFrame (Ok None) = Unit {0}
IsNoFrame (Err fault) = IsNotMemory fault

-- A frame was not answered: it could not be written whole, or no frame could be read after that. Memory is no cause: a
-- channel has what it needs from its first moment on.
pub data Unanswered : ConnectionState → Frame → ConnectionState → Type 0 where
  NotSent : {old new : ConnectionState} {said : Frame} (fault : FrameFault) → IsNotMemory fault →
      Writes old.outgoing new.outgoing said (Err fault) → Keeps old.incoming new.incoming → Unanswered old said new
  NotHeard : {old new : ConnectionState} {said : Frame} (result : Result (Option Frame) FrameFault) →
      Writes old.outgoing new.outgoing said (Ok tt) → IsNoFrame result →
      Took old.incoming new.incoming (λ bytes. Gives bytes new.incoming result) → Unanswered old said new

-- a frame was answered by a frame with this body, which is this answer
pub record IsAnswered (old new : ConnectionState) (said : Frame) (answer : BrokerAnswer) (body : List ℕ) : Type 0 where
  pub heard : Frame
  pub exchanged : Exchanged old new said heard
  pub has_body : body_of heard ≡ body
  pub is_told : answer ≡ answer_of heard

-- what reading an answer takes from what is to come in, and the body that it has; none where no frame could be read
abbrev pub ReadsAnswer : Option BrokerAnswer → List ℕ → Option (List ℕ) → Option (List ℕ) → Type 0
ReadsAnswer (Some answer) body old new = Took old new (λ bytes. IsAnswer bytes body answer)
ReadsAnswer None body old new =
    (result : Result (Option Frame) FrameFault) × IsNoFrame result × Took old new (λ bytes. Gives bytes new result)

-- the answer to a frame, if there is one
abbrev pub Answers : ConnectionState → Frame → Option BrokerAnswer → List ℕ → ConnectionState → Type 0
Answers old said (Some answer) body new = IsAnswered old new said answer body
Answers old said None body new = Unanswered old said new

-- ---- replies

-- the Post of a reply
abbrev pub post_of : ConnectionState → Reply → Frame
post_of channel reply = frames.Post channel.generation (reply_text reply)

-- what the answer to a Post says of the reply
abbrev pub posted_of : BrokerAnswer → Posted
posted_of answers.Posted = post.Done
posted_of answer = post.Broken

-- why the broker has no more for a channel, if the answer to a Post says so; else what was noted before
abbrev pub ended_by : BrokerAnswer → Option TakeFault → Option TakeFault
ended_by answers.Ended noted = Some refused.Ended
ended_by (answers.Stale now) noted = Some (refused.Stale now)
ended_by answer noted = noted

-- a reply's Post was answered: the answer decides the result, and what is noted of the end
abbrev pub Settles : ConnectionState → Frame → Posted → ConnectionState → Type 0
Settles old heard posted new =
    (posted ≡ posted_of (answer_of heard)) × (new ≡ record old { ended = ended_by (answer_of heard) old.ended })

-- the outcome of a reply that is posted alone: its Post was answered, and the answer decides; or Broken where no answer came
abbrev pub PostsAlone : ConnectionState → Reply → Posted → ConnectionState → Type 0
PostsAlone old reply posted new =
    ((mid : ConnectionState) × (heard : Frame) × Exchanged old mid (post_of old reply) heard × Settles mid heard posted new)
    ⊎ ((posted ≡ post.Broken) × Unanswered old (post_of old reply) new)

-- ---- asks

-- a request that cannot be read is answered by an error, if the kernel waits for a reply; otherwise the result is
-- Broken
abbrev pub Refuses : ConnectionState → List ℕ → WireFault → NextAsk → ConnectionState → Type 0
Refuses old bytes fault took.Empty new =
    (reply : Reply) × (fault_reply_of bytes fault ≡ Some reply) × PostsAlone old reply post.Done new
Refuses old bytes fault took.Broken new =
    ((fault_reply_of bytes fault ≡ None) × (new ≡ old))
    ⊎ ((reply : Reply) × (fault_reply_of bytes fault ≡ Some reply) × PostsAlone old reply post.Broken new)
Refuses old bytes fault taken new = ⊥

-- the outcome of a request that was handed out, as its bytes are read
abbrev pub Serves : ConnectionState → List ℕ → Result Ask WireFault → NextAsk → ConnectionState → Type 0
Serves old bytes (Ok ask) taken new = (taken ≡ took.Ask ask) × (new ≡ old)
Serves old bytes (Err fault) taken new = Refuses old bytes fault taken new

-- the channel stops for this cause
abbrev pub Stops : ConnectionState → TakeFault → NextAsk → ConnectionState → Type 0
Stops old why taken new = (taken ≡ took.Stopped) × (new ≡ record old { ended = Some why })

-- the outcome of the answer to a Take, whose frame has this body
abbrev pub Hears : ConnectionState → BrokerAnswer → List ℕ → NextAsk → ConnectionState → Type 0
Hears old answers.Ask body taken new = Serves old body (request_of body) taken new
Hears old answers.Empty body taken new = (taken ≡ took.Empty) × (new ≡ old)
Hears old answers.Ended body taken new = Stops old refused.Ended taken new
Hears old (answers.Stale now) body taken new = Stops old (refused.Stale now) taken new
Hears old answer body taken new = (taken ≡ took.Broken) × (new ≡ old)

-- the Take of a channel
abbrev pub take_of : ConnectionState → Frame
take_of channel = frames.Take channel.generation

-- The outcome of asking for an ask: the broker was asked, and its answer decides; or it was asked and did not answer; or
-- nothing was asked, since there is no room for what may come.
pub data Asks : ConnectionState → NextAsk → ConnectionState → Type 0 where
  Heard : {old new : ConnectionState} {taken : NextAsk} (mid : ConnectionState) (heard : Frame) →
      Exchanged old mid (take_of old) heard → Hears mid (answer_of heard) (body_of heard) taken new → Asks old taken new
  Unheard : {old new : ConnectionState} → Unanswered old (take_of old) new → Asks old took.Broken new
  NoRoom : {channel : ConnectionState} → Asks channel took.Empty channel

-- the outcome of taking an ask: what was taken behind the last reply is at hand, or else the broker is asked
abbrev pub Takes : ConnectionState → NextAsk → ConnectionState → Type 0
Takes old taken new =
    ((old.ahead ≡ Some taken) × (new ≡ record old { ahead = None })) ⊎ ((old.ahead ≡ None) × Asks old taken new)

-- ---- a reply and an ask in one

-- The Post of a reply, and the Take behind it, went out in this order. What else the channel knows is the same.
pub record SendsBoth (old : ConnectionState) (reply : Reply) (new : ConnectionState) : Type 0 where
  pub between : Option (List ℕ)
  pub post : Sends old.outgoing between (post_of old reply)
  pub take : Sends between new.outgoing (take_of old)
  pub same : new ≡ record old { outgoing = new.outgoing }

-- a frame could not be written whole, and that isn't for memory
abbrev pub IsUnsent : Option (List ℕ) → Option (List ℕ) → Frame → Type 0
IsUnsent old new frame = (fault : FrameFault) × IsNotMemory fault × Writes old new frame (Err fault)

-- The Post of a reply was not written, or it was, and the Take behind it was not.
abbrev pub UnsentBoth : ConnectionState → Reply → ConnectionState → Type 0
UnsentBoth old reply new = (new ≡ record old { outgoing = new.outgoing })
    × (IsUnsent old.outgoing new.outgoing (post_of old reply)
    ⊎ ((between : Option (List ℕ)) × Sends old.outgoing between (post_of old reply) × IsUnsent between new.outgoing (take_of old)))

-- whether the Post of a reply and the Take behind it were written
abbrev pub WritesBoth : ConnectionState → Reply → Bool → ConnectionState → Type 0
WritesBoth old reply true new = SendsBoth old reply new
WritesBoth old reply false new = UnsentBoth old reply new

-- a frame of this body, which is this answer, was read, and all that was written is out
pub record HearsFrame (old : ConnectionState) (answer : Option BrokerAnswer) (body : List ℕ) (new : ConnectionState) : Type 0 where
  pub generation : new.generation ≡ old.generation
  pub ended : new.ended ≡ old.ended
  pub ahead : new.ahead ≡ old.ahead
  pub sent : Keeps old.outgoing new.outgoing
  pub read : ReadsAnswer answer body old.incoming new.incoming

-- the outcome of a Take that was written before: its answer decides, or none came
abbrev pub HearsNext : ConnectionState → NextAsk → ConnectionState → Type 0
HearsNext old taken new =
    ((mid : ConnectionState) × (answer : BrokerAnswer) × (body : List ℕ) × HearsFrame old (Some answer) body mid
    × Hears mid answer body taken new)
    ⊎ ((taken ≡ took.Broken) × ((body : List ℕ) × HearsFrame old None body new))

-- A reply was posted together with a Take, and is Broken: not both were written; or both were, and no answer came to the Post, or
-- another one than that the reply is posted, which is noted where it says that the broker has no more.
abbrev pub BreaksBoth : ConnectionState → Reply → ConnectionState → Type 0
BreaksBoth old reply new = UnsentBoth old reply new
    ⊎ ((sent : ConnectionState) × SendsBoth old reply sent
    × (((body : List ℕ) × HearsFrame sent None body new)
    ⊎ ((heard : ConnectionState) × (answer : BrokerAnswer) × (body : List ℕ) × HearsFrame sent (Some answer) body heard
    × (posted_of answer ≡ post.Broken) × (new ≡ record heard { ended = ended_by answer heard.ended }))))

-- the outcome of a reply that is posted together with a Take: as by a Post and then a Take, whose result is kept
abbrev pub PostsAndTakes : ConnectionState → Reply → Posted → ConnectionState → Type 0
PostsAndTakes old reply post.Done new = (mid later : ConnectionState) × (next : NextAsk)
    × PostsAlone old reply post.Done mid × Asks mid next later × (new ≡ record later { ahead = Some next })
PostsAndTakes old reply post.Broken new = BreaksBoth old reply new

-- the outcome of a reply: it is posted alone, or, where nothing is at hand, together with a Take
abbrev pub Posts : ConnectionState → Reply → Posted → ConnectionState → Type 0
Posts old reply posted new =
    PostsAlone old reply posted new ⊎ ((old.ahead ≡ None) × PostsAndTakes old reply posted new)
