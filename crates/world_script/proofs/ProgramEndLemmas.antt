-- Lemmas on how the program ends.
use Rattle.std.proofs.Common.{◌≡◌, ◌⊎◌, ℕ, true, List, [], ◌∷◌, ◌++◌, Option, Some, None, Result, Ok, Err, option_map, refl, ap, subst, sym, ◌∙◌, inl, inr, string_bytes}
use Rattle.std.specs.Prelude.{OnOk}
use Rattle.std.specs.Io.KnownBytes.{Appends, Keeps}
use Rattle.std.proofs.KnownBytes.{Appends-kept, Keeps-refl, Keeps-trans}
use Rattle.std.specs.declared.io.ErrorKind.{ErrorKind as IoErrorKind}
use Rattle.std.specs.declared.io.ErrorKind.TheVariants as io_kind
use Rattle.std.specs.declared.io.Error.{Error as IoError}
use Rattle.clap.specs.Words.{IsAmong, Kinds}
use Rattle.clap.specs.declared.error.kind.ErrorKind.{ErrorKind}
use Rattle.clap.specs.declared.error.kind.ErrorKind.TheVariants as kind
use Rattle.world_script.specs.ProgramEnd.{Answers, Complains, Ends, Finishes, IsFault, IsMistake, IsWish, Tells, complaint, name_beside, name_by, name_of, plain, untold, untold_by, unwritten, wrong_had}
use Rattle.world_script.specs.FaultText.{fault_line}
use Rattle.world_script.specs.Refusal.{IsRunRefusal, comes_first}
use Rattle.world_script.specs.Script.{Runs}
use Rattle.world_script.specs.Source.{OfRead}
use Rattle.world_script.proofs.ReadLemmas.{of_read-any, of_read-map}
use Rattle.world_script.proofs.RunLemmas.{Runs-kept}
use Rattle.world_script.specs.declared.program_end.ProgramEnd.{ProgramEnd}
use Rattle.world_script.specs.declared.program_end.ProgramEnd.TheVariants.{Ran, Told, Untold, Shown, Refused}
use Rattle.world_script.specs.declared.failure.Cause.{Cause}
use Rattle.world_script.specs.declared.failure.Failure.{Failure}
use Rattle.world_script.specs.declared.program_fault.ProgramFault.{ProgramFault}
use Rattle.world_script.specs.declared.program_fault.ProgramFault.TheVariants.{CannotWrite, NoMemory}

-- memory may run out whatever the words say
pub is_fault-memory : (wrong : Kinds) (script : Option (List ℕ)) → IsFault wrong script NoMemory
is_fault-memory [] script = of_read-any script (λ bytes. IsRunRefusal bytes NoMemory) (λ bytes. tt)
is_fault-memory (kind ∷ more) script = inl refl

-- an answer to words that ask for no script may be unwritten
is_fault-answered : (wrong : Kinds) (script : Option (List ℕ)) (k : ErrorKind) → IsAmong k wrong → IsFault wrong script CannotWrite
is_fault-answered [] script k none = absurd none
is_fault-answered (kind ∷ more) script k among = inr refl

-- the program ends so if the line of its failure could not be written
ends-untold_by : (wrong : Kinds) (path : List ℕ) (script : Option (List ℕ)) (limit : ℕ) (before after : Option (List ℕ)) (fault : ProgramFault) (cause : Option Cause) (failure : Failure) (error : IoError) →
    failure.fault ≡ fault → failure.cause ≡ cause → IsFault wrong script failure.fault → name_of failure ≡ name_by path failure.fault →
    Ends wrong path script limit before after (untold_by fault cause failure error)
ends-untold_by wrong path script limit before after CannotWrite (Some first) failure error fault_is cause_is is named = (subst (IsFault wrong script) fault_is is, refl)
ends-untold_by wrong path script limit before after CannotWrite None failure error fault_is cause_is is named =
    (is, ap (option_map (λ (cause : Cause). cause.name.now)) cause_is ∙ sym (ap (name_beside path) fault_is))
ends-untold_by wrong path script limit before after fault cause failure error fault_is cause_is is named =
    (is, named ∙ (ap (name_by path) fault_is ∙ sym (ap (name_beside path) fault_is)))

ends-untold : (wrong : Kinds) (path : List ℕ) (script : Option (List ℕ)) (limit : ℕ) (before after : Option (List ℕ)) (failure : Failure) (error : IoError) →
    IsFault wrong script failure.fault → name_of failure ≡ name_by path failure.fault → Ends wrong path script limit before after (untold failure error)
ends-untold wrong path script limit before after failure error is named =
    ends-untold_by wrong path script limit before after failure.fault failure.cause failure error refl refl is named

-- bytes that are appended to kept ones are appended to those before
pub Appends-from : (a b c : Option (List ℕ)) (bs : List ℕ) → Keeps a b → Appends b c bs → Appends a c bs
Appends-from None b c bs kept grows = tt
Appends-from (Some x) None c bs kept grows = absurd kept
Appends-from (Some x) (Some y) None bs kept grows = absurd grows
Appends-from (Some x) (Some y) (Some z) bs kept grows = grows ∙ ap (λ (xs : List ℕ). xs ++ bs) kept

-- the program ends so if its failure is told
pub ends-told : (wrong : Kinds) (path : List ℕ) (script : Option (List ℕ)) (limit : ℕ) (before between after : Option (List ℕ)) (failure : Failure) (ending : ProgramEnd) →
    IsFault wrong script failure.fault → name_of failure ≡ name_by path failure.fault → (comes_first failure.fault ≡ true → Keeps before between) →
    Tells failure between after ending → Ends wrong path script limit before after ending
ends-told wrong path script limit before between after failure (Told told) is named kept (same, line) =
    subst (λ (f : Failure). Ends wrong path script limit before after (Told f)) (sym same) (is, named, λ first. Appends-from before between after (fault_line failure.fault) (kept first) line)
ends-told wrong path script limit before between after failure ending is named kept (error, same) =
    subst (λ (e : ProgramEnd). Ends wrong path script limit before after e) (sym same) (ends-untold wrong path script limit before after failure error is named)

-- the program ends so if memory is refused
pub ends-no_memory : (wrong : Kinds) (path : List ℕ) (script : Option (List ℕ)) (limit : ℕ) (before after : Option (List ℕ)) (ending : ProgramEnd) →
    Tells (plain NoMemory) before after ending → Ends wrong path script limit before after ending
ends-no_memory wrong path script limit before after ending told =
    ends-told wrong path script limit before before after (plain NoMemory) ending (is_fault-memory wrong script) refl (λ first. Keeps-refl before) told

-- the program ends so by a script's fault
pub ends-failed : (path : List ℕ) (script : Option (List ℕ)) (limit : ℕ) (before between after : Option (List ℕ)) (fault : ProgramFault) (failure : Failure) (ending : ProgramEnd) →
    failure.fault ≡ fault → OfRead script (λ bytes. IsRunRefusal bytes fault) → name_of failure ≡ name_by path failure.fault → (comes_first fault ≡ true → Keeps before between) →
    Tells failure between after ending → Ends [] path script limit before after ending
ends-failed path script limit before between after fault failure ending same is named kept told =
    ends-told [] path script limit before between after failure ending (subst (IsFault [] script) (sym same) is) named (λ first. kept (sym (ap comes_first same) ∙ first)) told

-- words that ask for no script end by the kind of what is wrong with them
pub ends-answered : (wrong : Kinds) (path : List ℕ) (script : Option (List ℕ)) (limit : ℕ) (before after : Option (List ℕ)) (k : ErrorKind) (ending : ProgramEnd) →
    (k ≡ kind.OutOfMemory) ⊎ IsAmong k wrong → Answers k before after ending → Ends wrong path script limit before after ending
ends-answered wrong path script limit before after k Ran has none = absurd none
ends-answered wrong path script limit before after k (Told failure) has told = ends-no_memory wrong path script limit before after (Told failure) told
ends-answered wrong path script limit before after k (Untold failure error) has (inl same) =
    subst (λ (f : Failure). Ends wrong path script limit before after (Untold f error)) (sym same) (is_fault-memory wrong script, refl)
ends-answered wrong path script limit before after k (Untold failure error) (inl memory) (inr (wish, same)) = absurd (subst IsWish memory wish)
ends-answered wrong path script limit before after k (Untold failure error) (inr among) (inr (wish, same)) =
    subst (λ (f : Failure). Ends wrong path script limit before after (Untold f error)) (sym same) (is_fault-answered wrong script k among, refl)
ends-answered wrong path script limit before after k (Shown text) (inl memory) (wish, line) = absurd (subst IsWish memory wish)
ends-answered wrong path script limit before after k (Shown text) (inr among) (wish, line) = (k, among, wish, line)
ends-answered wrong path script limit before after k (Refused text) (inl memory) (mistake, kept) = absurd (subst IsMistake memory mistake)
ends-answered wrong path script limit before after k (Refused text) (inr among) (mistake, kept) = (k, among, mistake, kept)

refused_as_no_text : (k : IoErrorKind) → (k ≡ io_kind.OutOfMemory → ⊥) → IsAmong kind.InvalidValue (wrong_had (Err k))
refused_as_no_text io_kind.OutOfMemory other = absurd (other refl)
refused_as_no_text k other = inl refl

-- words that the program did not get, for another cause than memory, end it as words that are no text
pub ends-unread : (k : IoErrorKind) (path : List ℕ) (script : Option (List ℕ)) (limit : ℕ) (before after : Option (List ℕ)) (said : ErrorKind) (ending : ProgramEnd) →
    (k ≡ io_kind.OutOfMemory → ⊥) → said ≡ kind.InvalidValue → Answers said before after ending → Ends (wrong_had (Err k)) path script limit before after ending
ends-unread k path script limit before after said ending other same answers =
    ends-answered (wrong_had (Err k)) path script limit before after said ending (inr (subst (λ (a : ErrorKind). IsAmong a (wrong_had (Err k))) (sym same) (refused_as_no_text k other))) answers

-- the lines of a script that was run may be unwritten
is_fault-ran : (wrong : Kinds) (script : Option (List ℕ)) (limit : ℕ) (before after : Option (List ℕ)) → (wrong ≡ []) × OfRead script (λ bytes. Runs bytes limit before after) → IsFault wrong script CannotWrite
is_fault-ran [] script limit before after ran =
    of_read-map script (λ bytes. Runs bytes limit before after) (λ bytes. IsRunRefusal bytes CannotWrite) (λ bytes runs. runs.good) ran.1
is_fault-ran (kind ∷ more) script limit before after ran = let none : ⊥ = cc in absurd none

ends-unwritten : (wrong : Kinds) (path : List ℕ) (script : Option (List ℕ)) (limit : ℕ) (before between after : Option (List ℕ)) (ending : ProgramEnd) (error : IoError) →
    Ends wrong path script limit before between ending → Ends wrong path script limit before after (unwritten ending error)
ends-unwritten wrong path script limit before between after Ran error ends = (is_fault-ran wrong script limit before between ends, refl)
ends-unwritten wrong path script limit before between after (Told failure) error (is, named, line) = ends-untold wrong path script limit before after failure error is named
ends-unwritten wrong path script limit before between after (Untold failure first) error ends = ends
ends-unwritten wrong path script limit before between after (Shown text) error (wish, among, is, line) = (is_fault-answered wrong script wish among, refl)
ends-unwritten wrong path script limit before between after (Refused text) error (mistake, among, is, kept) = (is_fault-answered wrong script mistake among, refl)

runs-kept : (script : Option (List ℕ)) (limit : ℕ) (before between after : Option (List ℕ)) → OfRead script (λ bytes. Runs bytes limit before between) → Keeps between after → OfRead script (λ bytes. Runs bytes limit before after)
runs-kept script limit before between after runs kept =
    of_read-map script (λ bytes. Runs bytes limit before between) (λ bytes. Runs bytes limit before after) (λ bytes ran. Runs-kept bytes limit before between after ran kept) runs

ends-kept : (wrong : Kinds) (path : List ℕ) (script : Option (List ℕ)) (limit : ℕ) (before between after : Option (List ℕ)) (ending : ProgramEnd) →
    Ends wrong path script limit before between ending → Keeps between after → Ends wrong path script limit before after ending
ends-kept wrong path script limit before between after Ran (none, runs) kept = (none, runs-kept script limit before between after runs kept)
ends-kept wrong path script limit before between after (Told failure) (is, named, line) kept =
    (is, named, λ first. Appends-kept before between after (fault_line failure.fault) (line first) kept)
ends-kept wrong path script limit before between after (Untold failure error) ends kept = ends
ends-kept wrong path script limit before between after (Shown text) (wish, among, is, line) kept = (wish, among, is, Appends-kept before between after (string_bytes text) line kept)
ends-kept wrong path script limit before between after (Refused text) (mistake, among, is, stays) kept = (mistake, among, is, Keeps-trans before between after stays kept)

-- how the program ends stays so once all is written, or says that it could not be
pub ends-finished : (wrong : Kinds) (path : List ℕ) (script : Option (List ℕ)) (limit : ℕ) (before between after : Option (List ℕ)) (ending new : ProgramEnd) →
    Ends wrong path script limit before between ending → Finishes ending between after new → Ends wrong path script limit before after new
ends-finished wrong path script limit before between after ending new ends (inl (same, kept)) =
    subst (λ (e : ProgramEnd). Ends wrong path script limit before after e) (sym same) (ends-kept wrong path script limit before between after ending ends kept)
ends-finished wrong path script limit before between after ending new ends (inr (error, same)) =
    subst (λ (e : ProgramEnd). Ends wrong path script limit before after e) (sym same) (ends-unwritten wrong path script limit before between after ending error ends)

-- a line of complaint has some cause
pub complains-of : (r : Result (Unit {0}) IoError) (name cause : List ℕ) (before after : Option (List ℕ)) →
    OnOk r (Appends before after (complaint name cause)) → OnOk r (Complains (Some name) before after)
complains-of (Ok done) name cause before after line = (cause, line)
complains-of (Err error) name cause before after line = tt
