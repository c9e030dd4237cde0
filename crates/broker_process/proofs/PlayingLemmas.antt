-- Lemmas on the lines of a script that were done.
use Rattle.std.proofs.Common.{◌≡◌, ◌⊎◌, ◌↔◌, ℕ, Bool, true, false, IsTrue, List, [], ◌∷◌, Option, Some, Result, Ok, Err, inl, inr, subst, sym, ◌∙◌}
use Rattle.std.specs.Prelude.{OnOk, codes}
use Rattle.std.specs.Io.KnownBytes.{Appends, Keeps}
use Rattle.std.proofs.KnownBytes.{Appends-nil, Appends-kept}
use Rattle.broker_core.specs.Broker.{BrokerState}
use Rattle.broker_desk.specs.Desk.{DeskState}
use Rattle.broker_script.specs.Looking.{Looks}
use Rattle.broker_script.specs.Printed.{PrintsBegun, came_lines}
use Rattle.broker_script.specs.declared.awaited.Awaited.{Awaited}
use Rattle.broker_script.specs.declared.awaited.Came.{Came}
use Rattle.broker_script.specs.declared.awaited.Came.TheVariants as came
use Rattle.broker_script.specs.declared.line.BegunLine.{BegunLine}
use Rattle.broker_script.specs.declared.line.BegunLine.TheVariants.{Waits, Forgot, Refused, Tells}
use Rattle.script_lines.specs.declared.broker_line.BrokerLine.{BrokerLine}
use Rattle.broker_process.specs.Playing.{Began, HasCome, PlaysLine, PlaysLines, PlaysScript, PrintsCome}

-- it was printed of some broker
pub printed-by_some : {E : Type 0} (result : Result (Unit {0}) E) (broker : BrokerState) (begun : BegunLine) (old new : Option (List ℕ)) →
    OnOk result (PrintsBegun broker begun old new) → OnOk result ((some : BrokerState) × PrintsBegun some begun old new)
printed-by_some (Ok done) broker begun old new printed = (broker, printed)
printed-by_some (Err error) broker begun old new printed = tt

-- a line was done that waits for what came
pub plays-waits : {E : Type 0} (result : Result (Unit {0}) E) (line : BrokerLine) (begun : BegunLine) (awaited : Awaited) (found : Came) (old mid new : Option (List ℕ)) →
    Began line begun → (broker : BrokerState) × PrintsBegun broker begun old mid → begun ≡ Waits awaited → HasCome awaited found →
    OnOk result (Appends mid new (came_lines found)) → OnOk result (PlaysLine line old new)
plays-waits (Ok done) line begun awaited found old mid new began printed is has line_printed = record {
  begun = begun;
  began = began;
  broker = printed.0;
  mid = mid;
  begins = printed.1;
  comes = subst (λ (b : BegunLine). PrintsCome b mid new) (sym is) (found, has, line_printed);
}
plays-waits (Err error) line begun awaited found old mid new began printed is has line_printed = tt

-- a line that waits for nothing prints nothing more
pub comes-nothing : (begun : BegunLine) (known : Option (List ℕ)) → (begun ≡ Forgot) ⊎ (((fault : _) × (begun ≡ Refused fault)) ⊎ (begun ≡ Tells)) → PrintsCome begun known known
comes-nothing begun known (inl is) = subst (λ (b : BegunLine). PrintsCome b known known) (sym is) (Appends-nil known)
comes-nothing begun known (inr (inl (fault, is))) = subst (λ (b : BegunLine). PrintsCome b known known) (sym is) (Appends-nil known)
comes-nothing begun known (inr (inr is)) = subst (λ (b : BegunLine). PrintsCome b known known) (sym is) (Appends-nil known)

-- a line was done that waits for nothing
pub plays-at_once : (line : BrokerLine) (begun : BegunLine) (old new : Option (List ℕ)) →
    Began line begun → (broker : BrokerState) × PrintsBegun broker begun old new → PrintsCome begun new new → PlaysLine line old new
plays-at_once line begun old new began printed comes = record {
  begun = begun;
  began = began;
  broker = printed.0;
  mid = new;
  begins = printed.1;
  comes = comes;
}

-- what was found came, unless memory was refused for it
pub has_come : (old new : DeskState) (awaited : Awaited) (found : Came) (lacks : Bool) →
    Looks old awaited (Some found) new → (IsTrue lacks ↔ (found ≡ came.Lacks)) → lacks ≡ false → HasCome awaited found
has_come old new awaited found lacks (inl finds) is not = (old, sym finds.found_is)
has_come old new awaited found lacks (inr refused) is not =
    let same : found ≡ came.Lacks = cc in
    let bad : IsTrue lacks = is.1 same in
    let both : false ≡ true = sym not ∙ bad in cc

-- what was printed stays
come-kept : (begun : BegunLine) (old mid new : Option (List ℕ)) → PrintsCome begun old mid → Keeps mid new → PrintsCome begun old new
come-kept (Waits awaited) old mid new (came, is, printed) kept = (came, is, Appends-kept old mid new (came_lines came) printed kept)
come-kept Forgot old mid new printed kept = Appends-kept old mid new [] printed kept
come-kept (Refused fault) old mid new printed kept = Appends-kept old mid new [] printed kept
come-kept Tells old mid new printed kept = Appends-kept old mid new [] printed kept

plays-kept : (line : BrokerLine) (old mid new : Option (List ℕ)) → PlaysLine line old mid → Keeps mid new → PlaysLine line old new
plays-kept line old mid new plays kept = record {
  begun = plays.begun;
  began = plays.began;
  broker = plays.broker;
  mid = plays.mid;
  begins = plays.begins;
  comes = come-kept plays.begun plays.mid mid new plays.comes kept;
}

-- what the lines from here on print is what is left of all lines
abbrev pub IsPlayedTo : (all left : List BrokerLine) (old now : Option (List ℕ)) → Type 0
IsPlayedTo all left old now = (new : Option (List ℕ)) → PlaysLines left now new → PlaysLines all old new

-- one more line
pub played-more : (all left more : List BrokerLine) (line : BrokerLine) (old now mid new : Option (List ℕ)) →
    IsPlayedTo all left old now → left ≡ line ∷ more → PlaysLine line now mid → Keeps mid new → IsPlayedTo all more old new
played-more all left more line old now mid new was is plays kept last rest =
    was last (subst (λ (lines : List BrokerLine). PlaysLines lines now last) (sym is) (new, plays-kept line now mid new plays kept, rest))

-- all lines, and the end of the mount
pub played-all : (script left : List BrokerLine) (old mid ended new : Option (List ℕ)) →
    IsPlayedTo script left old mid → left ≡ [] → Appends mid ended (codes "ended\n") → Keeps ended new → PlaysScript script old new
played-all script left old mid ended new was none printed kept =
    (mid, was mid (subst (λ (lines : List BrokerLine). PlaysLines lines mid mid) (sym none) (Appends-nil mid)), Appends-kept mid ended new (codes "ended\n") printed kept)
