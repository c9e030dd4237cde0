-- What hearing a message, or giving up, makes of a daemon's phase: its generation stays, and data that is out stays
-- out.
use Rattle.std.proofs.Common.{◌≡◌, ◌⊎◌, ℕ, Bool, true, false, List, Some, inl, inr, arith, rules}
use Rattle.std.specs.Prelude.{◌==◌, ◌&&◌}
use Rattle.eden_base.specs.Limits.{last_generation}
use Rattle.takeover_core.specs.Histories.{seat_of}
use Rattle.takeover_core.specs.Node.{NodeState}
use Rattle.takeover_core.specs.Phases.{Hear, GiveUp, Drained, after, heard, claim_wanted}
use Rattle.takeover_core.specs.declared.heard.Heard.{Heard as Answer}
use Rattle.takeover_core.specs.declared.heard.Heard.TheVariants.{Say, MakeData, GotData, GotPart}
use Rattle.takeover_core.specs.declared.message.Message.{Message}
use Rattle.takeover_core.specs.declared.message.Message.TheVariants.{Offer, Choice, Ready, Pong, Data, Part, Failed}
use Rattle.takeover_core.specs.declared.phase.Phase.{Phase}
use Rattle.takeover_core.specs.declared.phase.Phase.TheVariants.{Waiting, Chosen, Taking, Reading, Raising, Serving, Draining, Pinged, Making, Handed, Gone}
use Rattle.world.specs.Attending.{serving_at}
use Rattle.world.specs.Handing.{part_at, is_drained, is_out, in_session, reads_at}
use Rattle.daemon.specs.Talking.{bytes_of}

-- the state of a node, by its parts
abbrev pub node_of : List ℕ → ℕ → Phase → NodeState
node_of versions sessions phase = record { phase = phase; versions = versions; sessions = sessions }

-- whether a message is data: all of it, or a part
abbrev pub is_data : Message → Bool
is_data (Data s g bytes) = true
is_data (Part s g i n bytes) = true
is_data other = false

abbrev pub says_data : Answer → Bool
says_data (Say m) = is_data m
says_data answer = false

-- A daemon turned from one phase to another, seen at a generation; `idle` tells whether it has nothing left. The phase
-- keeps its generation. It serves only if it did before, and is drained if it was, or if nothing is left. Data that is
-- out stays out, and a session begins only where a claim can follow. What is held was held before, or is the daemon's
-- own. A daemon that waits for a part waited for one.
pub record IsTurn (g : ℕ) (idle : Bool) (old new : Phase) : Type 0 where
  pub part_back : part_at new ≡ Some g → part_at old ≡ Some g
  pub part_on : part_at old ≡ Some g → part_at new ≡ Some g
  pub seat_back : seat_of new ≡ Some g → seat_of old ≡ Some g
  pub serving_back : serving_at new ≡ Some g → serving_at old ≡ Some g
  pub out_on : is_out old ≡ true → is_out new ≡ true
  pub drained_back : is_drained new ≡ true → (is_drained old ≡ true) ⊎ (idle ≡ true)
  pub session_back : in_session new ≡ true → part_at old ≡ Some g → (in_session old ≡ true) ⊎ ((g == last_generation) ≡ false)
  pub held_back : claim_wanted new ≡ Some g → (claim_wanted old ≡ Some g) ⊎ ((seat_of old ≡ Some g) × (is_out old ≡ true))
  pub reads_back : reads_at new ≡ Some g → new ≡ old

pub turn-hear : (vs : List ℕ) (n : ℕ) (phase : Phase) (m : Message) (g : ℕ) → IsTurn g false phase (after (node_of vs n phase) (Hear m)).phase
turn-hear vs n Waiting (Choice t v) g = grind (arith, rules)
turn-hear vs n (Chosen s v) (Ready t h) g = grind (arith, rules)
turn-hear vs n (Chosen s v) (Data t h bytes) g = grind (arith, rules)
turn-hear vs n (Chosen s v) (Part t h i c bytes) g = grind (arith, rules)
turn-hear vs n (Reading s h v i c) (Part t k j d bytes) g = grind (arith, rules)
turn-hear vs n (Chosen s v) (Failed t) g = grind (arith, rules)
turn-hear vs n (Reading s h v i c) (Failed t) g = grind (arith, rules)
turn-hear vs n (Serving h) (Offer offered) g = grind (arith, rules)
turn-hear vs n (Pinged h s v) (Pong t) g = grind (arith, rules)
turn-hear vs n (Draining h s v) (Failed t) g = grind (arith, rules)
turn-hear vs n (Pinged h s v) (Failed t) g = grind (arith, rules)
turn-hear vs n (Making h s v) (Failed t) g = grind (arith, rules)
turn-hear vs n (Handed h s) (Failed t) g = grind (arith, rules)
turn-hear vs n phase m g = grind (arith, rules)

pub turn-give_up : (vs : List ℕ) (n : ℕ) (phase : Phase) (g : ℕ) → IsTurn g false phase (after (node_of vs n phase) GiveUp).phase
turn-give_up vs n phase g = grind (arith, rules)

pub turn-drained : (vs : List ℕ) (n : ℕ) (phase : Phase) (h u : ℕ) (g : ℕ) → IsTurn g (h == 0 && u == 0) phase (after (node_of vs n phase) (Drained h u)).phase
turn-drained vs n (Draining g' s v) h u g = grind (arith, rules)
turn-drained vs n phase h u g = grind (arith, rules)

pub turn-made : (s v h : ℕ) (g : ℕ) → IsTurn g false (Pinged h s v) (Handed h s)
turn-made s v h g = grind (arith, rules)

pub turn-failed : (s v h : ℕ) (g : ℕ) → IsTurn g false (Pinged h s v) (Serving h)
turn-failed s v h g = grind (arith, rules)

pub turn-gone : (s v : ℕ) (g : ℕ) → IsTurn g false (Chosen s v) Gone
turn-gone s v g = grind (arith, rules)

pub turn-lost : (s h v i c : ℕ) (g : ℕ) → IsTurn g false (Reading s h v i c) Gone
turn-lost s h v i c g = grind (arith, rules)

-- ---- what is said

pub hear-no-data : (vs : List ℕ) (n : ℕ) (phase : Phase) (m : Message) → says_data (heard (node_of vs n phase) (Hear m)) ≡ false
hear-no-data vs n Waiting (Choice t v) = grind (arith, rules)
hear-no-data vs n (Chosen s v) (Ready t h) = grind (arith, rules)
hear-no-data vs n (Chosen s v) (Data t h bytes) = grind (arith, rules)
hear-no-data vs n (Chosen s v) (Part t h i c bytes) = grind (arith, rules)
hear-no-data vs n (Reading s h v i c) (Part t k j d bytes) = grind (arith, rules)
hear-no-data vs n (Chosen s v) (Failed t) = grind (arith, rules)
hear-no-data vs n (Reading s h v i c) (Failed t) = grind (arith, rules)
hear-no-data vs n (Serving h) (Offer offered) = grind (arith, rules)
hear-no-data vs n (Pinged h s v) (Pong t) = grind (arith, rules)
hear-no-data vs n (Draining h s v) (Failed t) = grind (arith, rules)
hear-no-data vs n (Pinged h s v) (Failed t) = grind (arith, rules)
hear-no-data vs n (Making h s v) (Failed t) = grind (arith, rules)
hear-no-data vs n (Handed h s) (Failed t) = grind (arith, rules)
hear-no-data vs n phase m = grind (arith, rules)

pub give_up-no-data : (vs : List ℕ) (n : ℕ) (phase : Phase) → says_data (heard (node_of vs n phase) GiveUp) ≡ false
give_up-no-data vs n phase = grind (arith, rules)

pub drained-no-data : (vs : List ℕ) (n : ℕ) (phase : Phase) (h u : ℕ) → says_data (heard (node_of vs n phase) (Drained h u)) ≡ false
drained-no-data vs n (Draining g s v) h u = grind (arith, rules)
drained-no-data vs n phase h u = grind (arith, rules)

-- ---- the data

-- a daemon that is to make data was drained, and its phase is that of making
pub record MakesIt (vs : List ℕ) (n : ℕ) (old : Phase) (m : Message) (s g v : ℕ) : Type 0 where
  pub was : old ≡ Pinged g s v
  pub now : (after (node_of vs n old) (Hear m)).phase ≡ Making g s v

pub makes-it : (vs : List ℕ) (n : ℕ) (phase : Phase) (m : Message) (s g v : ℕ) → heard (node_of vs n phase) (Hear m) ≡ MakeData s g v → MakesIt vs n phase m s g v
makes-it vs n (Pinged h t w) (Pong u) s g v e = grind (arith, rules)
makes-it vs n (Waiting) (Choice t w) s g v e = absurd (let none : ⊥ = grind (arith, rules) in none)
makes-it vs n (Chosen r w) (Ready t h) s g v e = absurd (let none : ⊥ = grind (arith, rules) in none)
makes-it vs n (Chosen r w) (Data t h bytes) s g v e = absurd (let none : ⊥ = grind (arith, rules) in none)
makes-it vs n (Chosen r w) (Part t h i c bytes) s g v e = absurd (let none : ⊥ = grind (arith, rules) in none)
makes-it vs n (Reading r h w i c) (Part t k j d bytes) s g v e = absurd (let none : ⊥ = grind (arith, rules) in none)
makes-it vs n (Chosen r w) (Failed t) s g v e = absurd (let none : ⊥ = grind (arith, rules) in none)
makes-it vs n (Reading r h w i c) (Failed t) s g v e = absurd (let none : ⊥ = grind (arith, rules) in none)
makes-it vs n (Serving h) (Offer offered) s g v e = absurd (let none : ⊥ = grind (arith, rules) in none)
makes-it vs n (Draining h r w) (Failed t) s g v e = absurd (let none : ⊥ = grind (arith, rules) in none)
makes-it vs n (Pinged h r w) (Failed t) s g v e = absurd (let none : ⊥ = grind (arith, rules) in none)
makes-it vs n (Making h r w) (Failed t) s g v e = absurd (let none : ⊥ = grind (arith, rules) in none)
makes-it vs n (Handed h r) (Failed t) s g v e = absurd (let none : ⊥ = grind (arith, rules) in none)
makes-it vs n phase m s g v e = absurd (let none : ⊥ = cc in none)

-- a daemon that got data was chosen for it, and the message has the data's bytes
pub record TakesIt (vs : List ℕ) (n : ℕ) (old : Phase) (m : Message) (s g v : ℕ) : Type 0 where
  pub was : old ≡ Chosen s v
  pub now : (after (node_of vs n old) (Hear m)).phase ≡ Raising s g
  pub got : m ≡ Data s g (bytes_of m)

pub takes-it : (vs : List ℕ) (n : ℕ) (phase : Phase) (m : Message) (s g v : ℕ) → heard (node_of vs n phase) (Hear m) ≡ GotData s g v → TakesIt vs n phase m s g v
takes-it vs n (Chosen r w) (Data t h bytes) s g v e = grind (arith, rules)
takes-it vs n (Waiting) (Choice t w) s g v e = absurd (let none : ⊥ = grind (arith, rules) in none)
takes-it vs n (Chosen r w) (Ready t h) s g v e = absurd (let none : ⊥ = grind (arith, rules) in none)
takes-it vs n (Chosen r w) (Part t h i c bytes) s g v e = absurd (let none : ⊥ = grind (arith, rules) in none)
takes-it vs n (Reading r h w i c) (Part t k j d bytes) s g v e = absurd (let none : ⊥ = grind (arith, rules) in none)
takes-it vs n (Chosen r w) (Failed t) s g v e = absurd (let none : ⊥ = grind (arith, rules) in none)
takes-it vs n (Reading r h w i c) (Failed t) s g v e = absurd (let none : ⊥ = grind (arith, rules) in none)
takes-it vs n (Serving h) (Offer offered) s g v e = absurd (let none : ⊥ = grind (arith, rules) in none)
takes-it vs n (Pinged h r w) (Pong t) s g v e = absurd (let none : ⊥ = grind (arith, rules) in none)
takes-it vs n (Draining h r w) (Failed t) s g v e = absurd (let none : ⊥ = grind (arith, rules) in none)
takes-it vs n (Pinged h r w) (Failed t) s g v e = absurd (let none : ⊥ = grind (arith, rules) in none)
takes-it vs n (Making h r w) (Failed t) s g v e = absurd (let none : ⊥ = grind (arith, rules) in none)
takes-it vs n (Handed h r) (Failed t) s g v e = absurd (let none : ⊥ = grind (arith, rules) in none)
takes-it vs n phase m s g v e = absurd (let none : ⊥ = cc in none)

-- ---- a part

-- a daemon that got a part waited for it, as the first part or after others, and the message has its bytes
pub record PartIt (vs : List ℕ) (count : ℕ) (old : Phase) (m : Message) (s g v i n : ℕ) : Type 0 where
  pub was : ((old ≡ Chosen s v) × (i ≡ 1)) ⊎ (old ≡ Reading s g v i n)
  pub now : (after (node_of vs count old) (Hear m)).phase ≡ Taking s g v i n
  pub got : m ≡ Part s g i n (bytes_of m)

part_first : (vs : List ℕ) (count r w t h i c : ℕ) (bytes : List ℕ) (s g v j n : ℕ) → heard (node_of vs count (Chosen r w)) (Hear (Part t h i c bytes)) ≡ GotPart s g v j n → PartIt vs count (Chosen r w) (Part t h i c bytes) s g v j n
part_first vs count r w t h i c bytes s g v j n e = record { was = inl (grind (arith, rules), grind (arith, rules)); now = grind (arith, rules); got = grind (arith, rules) }

part_next : (vs : List ℕ) (count r h w i c t k j d : ℕ) (bytes : List ℕ) (s g v p n : ℕ) → heard (node_of vs count (Reading r h w i c)) (Hear (Part t k j d bytes)) ≡ GotPart s g v p n → PartIt vs count (Reading r h w i c) (Part t k j d bytes) s g v p n
part_next vs count r h w i c t k j d bytes s g v p n e = record { was = inr (grind (arith, rules)); now = grind (arith, rules); got = grind (arith, rules) }

pub part-it : (vs : List ℕ) (count : ℕ) (phase : Phase) (m : Message) (s g v i n : ℕ) → heard (node_of vs count phase) (Hear m) ≡ GotPart s g v i n → PartIt vs count phase m s g v i n
part-it vs count (Chosen r w) (Part t h i c bytes) s g v j n e = part_first vs count r w t h i c bytes s g v j n e
part-it vs count (Reading r h w i c) (Part t k j d bytes) s g v p n e = part_next vs count r h w i c t k j d bytes s g v p n e
part-it vs count (Chosen r w) (Data t h bytes) s g v i n e = absurd (let none : ⊥ = grind (arith, rules) in none)
part-it vs count (Waiting) (Choice t w) s g v i n e = absurd (let none : ⊥ = grind (arith, rules) in none)
part-it vs count (Chosen r w) (Ready t h) s g v i n e = absurd (let none : ⊥ = grind (arith, rules) in none)
part-it vs count (Chosen r w) (Failed t) s g v i n e = absurd (let none : ⊥ = grind (arith, rules) in none)
part-it vs count (Serving h) (Offer offered) s g v i n e = absurd (let none : ⊥ = grind (arith, rules) in none)
part-it vs count (Pinged h r w) (Pong t) s g v i n e = absurd (let none : ⊥ = grind (arith, rules) in none)
part-it vs count (Draining h r w) (Failed t) s g v i n e = absurd (let none : ⊥ = grind (arith, rules) in none)
part-it vs count (Pinged h r w) (Failed t) s g v i n e = absurd (let none : ⊥ = grind (arith, rules) in none)
part-it vs count (Making h r w) (Failed t) s g v i n e = absurd (let none : ⊥ = grind (arith, rules) in none)
part-it vs count (Handed h r) (Failed t) s g v i n e = absurd (let none : ⊥ = grind (arith, rules) in none)
part-it vs count (Reading r h w j c) (Failed t) s g v i n e = absurd (let none : ⊥ = grind (arith, rules) in none)
part-it vs count phase m s g v i n e = absurd (let none : ⊥ = cc in none)
