-- What was read in parts was read.
use Rattle.std.proofs.Common.{◌≡◌, ◌≢◌, ℕ, ◌+◌, ◌<◌, ◌≤◌, List, [], ◌∷◌, ◌++◌, length, take, drop, Option, Some, None, Result, Ok, Err, refl, sym, ap, subst, ◌∙◌, append-nil, length-append, length-take, length-take-le, take_at, drop_at, arith}
use Rattle.std.proofs.Math.Seq.{take-add}
use Rattle.std.proofs.lemmas.List.{take-append-le}
use borrow.Rule.Slice.PartMut.{put_mid, post_of}
use Rattle.std.proofs.KnownBytes.{Consumes-nil, Consumes-kept, Consumes-trans}
use Rattle.std.specs.Io.KnownBytes.{Consumes, IsAtEnd, Keeps}
use Rattle.frames.specs.declared.answer.BrokerAnswer.{BrokerAnswer}
use Rattle.frames.specs.declared.fault.FrameFault.{FrameFault}
use Rattle.frames.specs.declared.fault.FrameFault.TheVariants.{TooLong, BadKind, BadBody, Torn, Read, Write, NoMemory}
use Rattle.frames.specs.declared.frame.Frame.{Frame}
use Rattle.frames.specs.Answer.{IsAnswer}
use Rattle.frames.specs.FrameText.{IsNotMemory}
use Rattle.frames.specs.Lacking.{IsHeadFault, lacking}
use Rattle.frames.specs.Laws.{grown}
use Rattle.frames.specs.Reading.{First, Faulty, NotYet, said}
use Rattle.frames.specs.Says.{IsFirst}
use Rattle.frames.proofs.GrowingLaws.{grows}
use Rattle.frames.proofs.LackingLaws.{few_say_nothing, part_says_nothing}
use Rattle.frames.proofs.StreamLaws.{text_again}
use Rattle.links.specs.Reading.{Gives, GivesFirst, GivesHead, GivesKnown, IsFault, Took}

-- ---- a room that is filled from its front on

-- what the front of a room has after more was read: what it had, and then what was read
pub room_grown : (held k count : ℕ) (xs ys : List ℕ) → held ≤ length xs → count ≤ length ys → take (held + count) (put_mid held k xs ys) ≡ take held xs ++ take count ys
room_grown held k count xs ys within fits =
    let after = post_of held k xs in
    let front : take held (put_mid held k xs ys) ≡ take held xs = take_at (take held xs) (ys ++ after) held (length-take-le held xs within) in
    let rest : drop held (put_mid held k xs ys) ≡ ys ++ after = drop_at (take held xs) (ys ++ after) held (length-take-le held xs within) in
    take-add held count (put_mid held k xs ys)
    ∙ ap (λ (t : List ℕ). t ++ take count (drop held (put_mid held k xs ys))) front
    ∙ ap (λ (t : List ℕ). take held xs ++ take count t) rest
    ∙ ap (λ (t : List ℕ). take held xs ++ t) (take-append-le count ys after fits)

pub room_kept : (held k : ℕ) (xs ys : List ℕ) → held ≤ length xs → take held (put_mid held k xs ys) ≡ take held xs
room_kept held k xs ys within = take_at (take held xs) (ys ++ post_of held k xs) held (length-take-le held xs within)

pub room_read : (old mid new : Option (List ℕ)) (held k count : ℕ) (xs ys : List ℕ) → held ≤ length xs → count ≤ length ys → Consumes old mid (take held xs) → Consumes mid new (take count ys) → Consumes old new (take (held + count) (put_mid held k xs ys))
room_read old mid new held k count xs ys within fits first then =
    subst (Consumes old new) (sym (room_grown held k count xs ys within fits)) (Consumes-trans old mid new (take held xs) (take count ys) first then)

pub room_same : (old mid new : Option (List ℕ)) (held k : ℕ) (xs ys : List ℕ) → held ≤ length xs → Consumes old mid (take held xs) → Keeps mid new → Consumes old new (take held (put_mid held k xs ys))
room_same old mid new held k xs ys within first kept =
    subst (Consumes old new) (sym (room_kept held k xs ys within)) (Consumes-kept old mid new (take held xs) first kept)

-- ---- a fault after a front

pub head_fault : (bytes : List ℕ) (left : Option (List ℕ)) (fault : FrameFault) → IsHeadFault fault → said bytes ≡ Faulty fault → IsFault bytes left fault
head_fault bytes left TooLong is says = says
head_fault bytes left BadKind is says = says
head_fault bytes left BadBody is says = absurd is
head_fault bytes left Torn is says = absurd is
head_fault bytes left Read is says = absurd is
head_fault bytes left Write is says = absurd is
head_fault bytes left NoMemory is says = absurd is

-- neither such a fault nor one of a body is for memory
pub head_not_memory : (fault : FrameFault) → IsHeadFault fault → IsNotMemory fault
head_not_memory TooLong is = tt
head_not_memory BadKind is = tt
head_not_memory BadBody is = tt
head_not_memory Torn is = tt
head_not_memory Read is = tt
head_not_memory Write is = tt
head_not_memory NoMemory is = absurd is

pub bad_not_memory : (fault : FrameFault) → fault ≡ BadBody → IsNotMemory fault
bad_not_memory fault is = subst IsNotMemory (sym is) tt

-- a fault of bytes that were read after a front is one of all of them
pub joined_fault : (old mid new : Option (List ℕ)) (front : List ℕ) (fault : FrameFault) → Consumes old mid front → Took mid new (λ bytes. IsFault (front ++ bytes) new fault) → Took old new (λ bytes. IsFault bytes new fault)
joined_fault old mid new front fault first then = record {
  bytes = front ++ then.bytes;
  taken = Consumes-trans old mid new front then.bytes first then.taken;
  holds = then.holds;
}

-- a head that was read whole was read
pub head_read : (old new : Option (List ℕ)) (head : List ℕ) (given : Option ℕ) (count : ℕ) → given ≡ Some count → GivesHead old new head (Ok given) → Consumes old new head
head_read old new head (Some n) count e is = is.0
head_read old new head None count e is = absurd cc

-- a frame that was read after its head was read as a whole
pub joined_frame : (old mid new : Option (List ℕ)) (head : List ℕ) (frame : Frame) → Consumes old mid head → Took mid new (λ bytes. IsFirst (head ++ bytes) frame []) → Took old new (λ bytes. IsFirst bytes frame [])
joined_frame old mid new head frame first then = record {
  bytes = head ++ then.bytes;
  taken = Consumes-trans old mid new head then.bytes first then.taken;
  holds = then.holds;
}

-- an answer that was read after its head was read as a whole
pub joined_answer : (old mid new : Option (List ℕ)) (head body : List ℕ) (answer : BrokerAnswer) → Consumes old mid head → Took mid new (λ bytes. IsAnswer (head ++ bytes) body answer) → Took old new (λ bytes. IsAnswer bytes body answer)
joined_answer old mid new head body answer first then = record {
  bytes = head ++ then.bytes;
  taken = Consumes-trans old mid new head then.bytes first then.taken;
  holds = then.holds;
}

-- a body that is at fault
pub bad_behind : (old new : Option (List ℕ)) (head body : List ℕ) (fault : FrameFault) → fault ≡ BadBody → Consumes old new body → said (head ++ body) ≡ Faulty fault → Took old new (λ bytes. IsFault (head ++ bytes) new fault)
bad_behind old new head body fault is taken says = record {
  bytes = body;
  taken = taken;
  holds = subst (λ (it : FrameFault). said (head ++ body) ≡ Faulty it → IsFault (head ++ body) new it) (sym is) (λ it. it) says;
}

-- a head that was read in two parts was read as a whole
pub joined_head : (old mid new : Option (List ℕ)) (front head : List ℕ) → Consumes old mid front → Took mid new (λ bytes. head ≡ front ++ bytes) → Consumes old new head
joined_head old mid new front head first then = subst (Consumes old new) (sym then.holds) (Consumes-trans old mid new front then.bytes first then.taken)

-- a read that failed before the length was whole
pub few_fault : (old new : Option (List ℕ)) → Took old new (λ bytes. length bytes < 4) → Took old new (λ bytes. IsFault bytes new Read)
few_fault old new took = record { bytes = took.bytes; taken = took.taken; holds = few_say_nothing took.bytes took.holds }

no_bytes : (bytes : List ℕ) → length bytes < 1 → bytes ≡ []
no_bytes [] few = refl
no_bytes (byte ∷ bytes) few = absurd (omega (arith, few))

-- a read failed before the kind was there
pub kind_fault : (old new : Option (List ℕ)) (front : List ℕ) → said front ≡ NotYet → Took old new (λ bytes. length bytes < 1) → Took old new (λ bytes. IsFault (front ++ bytes) new Read)
kind_fault old new front none took = record {
  bytes = took.bytes;
  taken = took.taken;
  holds = ap (λ (t : List ℕ). said (front ++ t)) (no_bytes took.bytes took.holds) ∙ ap said (append-nil front) ∙ none;
}

-- a read failed before the body was whole
pub body_fault : (old new : Option (List ℕ)) (head : List ℕ) (n : ℕ) → length head ≡ 5 → lacking head ≡ Ok n → Took old new (λ bytes. length bytes < n) → Took old new (λ bytes. IsFault (head ++ bytes) new Read)
body_fault old new head n five lacks took = record { bytes = took.bytes; taken = took.taken; holds = part_says_nothing head took.bytes n five lacks took.holds }

-- ---- an end within a frame, and no memory for its body

pub head_torn : (old new : Option (List ℕ)) (held : ℕ) (room : List ℕ) → 0 < held → held < 4 → held ≤ length room → Consumes old new (take held room) → IsAtEnd new → Took old new (λ bytes. IsFault bytes new Torn)
head_torn old new held room some few within read end = record {
  bytes = take held room;
  taken = read;
  holds = (omega (arith, some, within, length-take held room), few_say_nothing (take held room) (omega (arith, few, length-take held room)), end);
}

pub kind_torn : (old new : Option (List ℕ)) (front room : List ℕ) → said front ≡ NotYet → 0 < length front → Consumes old new (take 0 room) → IsAtEnd new → Took old new (λ bytes. IsFault (front ++ bytes) new Torn)
kind_torn old new front room none some read end = record {
  bytes = [];
  taken = read;
  holds = (subst (λ (t : List ℕ). 0 < length t) (sym (append-nil front)) some, ap said (append-nil front) ∙ none, end);
}

pub body_torn : (old new : Option (List ℕ)) (head : List ℕ) (n held : ℕ) (room : List ℕ) → length head ≡ 5 → lacking head ≡ Ok n → held < n → Consumes old new (take held room) → IsAtEnd new → Took old new (λ bytes. IsFault (head ++ bytes) new Torn)
body_torn old new head n held room five lacks few read end = record {
  bytes = take held room;
  taken = read;
  holds = (omega (arith, five, length-append head (take held room)), part_says_nothing head (take held room) n five lacks (omega (arith, few, length-take held room)), end);
}

pub body_unread : (known : Option (List ℕ)) (head : List ℕ) (n : ℕ) → length head ≡ 5 → lacking head ≡ Ok n → 0 < n → Took known known (λ bytes. IsFault (head ++ bytes) known NoMemory)
body_unread known head n five lacks some = record {
  bytes = [];
  taken = Consumes-nil known;
  holds = (ap length (append-nil head) ∙ five, part_says_nothing head [] n five lacks some);
}

-- ---- all that a reader had

some_faulty : (bytes : List ℕ) (fault : FrameFault) → said bytes ≡ Faulty fault → said bytes ≢ NotYet
some_faulty bytes fault is none = absurd cc

-- a fault in front is one in front of more
faulty_more : (all bytes left : List ℕ) (fault : FrameFault) → all ≡ bytes ++ left → said bytes ≡ Faulty fault → said all ≡ Faulty fault
faulty_more all bytes left fault e is = ap said e ∙ grows bytes left (some_faulty bytes fault is) ∙ ap (λ what. grown what left) is

-- a frame in front of bytes is one in front of more bytes
text_more : (all bytes left : List ℕ) (frame : Frame) → all ≡ bytes ++ left → IsFirst bytes frame [] → IsFirst all frame left
text_more all bytes left frame e is = record {
  text = is.text;
  is_text = is.is_text;
  in_front = e ∙ ap (λ (t : List ℕ). t ++ left) (is.in_front ∙ append-nil is.text);
  fits = is.fits;
}

first_said : (all left : List ℕ) (frame : Frame) → IsFirst all frame left → said all ≡ First frame left
first_said all left frame is = ap said is.in_front ∙ text_again frame is.text left is.fits is.is_text

all_read : (all bytes left : List ℕ) → all ≡ bytes ++ left → left ≡ [] → all ≡ bytes
all_read all bytes left e none = e ∙ ap (λ (t : List ℕ). bytes ++ t) none ∙ append-nil bytes

gives_first : (all bytes left : List ℕ) (result : Result (Option Frame) FrameFault) → all ≡ bytes ++ left → Gives bytes (Some left) result → GivesFirst all left result
gives_first all bytes left (Ok (Some frame)) e is =
    let first = text_more all bytes left frame e is in
    (first_said all left frame first, first)
gives_first all bytes left (Ok None) e is = (all_read all bytes left e is.1 ∙ is.0, is.1)
gives_first all bytes left (Err TooLong) e is = faulty_more all bytes left TooLong e is
gives_first all bytes left (Err BadKind) e is = faulty_more all bytes left BadKind e is
gives_first all bytes left (Err BadBody) e is = faulty_more all bytes left BadBody e is
gives_first all bytes left (Err Torn) e is =
    let same = all_read all bytes left e is.2 in
    (subst (λ (t : List ℕ). 0 < length t) (sym same) is.0, ap said same ∙ is.1, is.2)
gives_first all bytes left (Err Read) e is = tt
gives_first all bytes left (Err Write) e is = absurd is
gives_first all bytes left (Err NoMemory) e is = tt

-- what was read gives what all that was known says
pub gives_known : (old new : Option (List ℕ)) (result : Result (Option Frame) FrameFault) → Took old new (λ bytes. Gives bytes new result) → GivesKnown old new result
gives_known None new result took = tt
gives_known (Some all) None result took = absurd took.taken
gives_known (Some all) (Some left) result took = gives_first all took.bytes left result took.taken took.holds
