-- Lemmas on a run of the program in a process: what its streams held before is known of the writers that stand for
-- them.
use Rattle.std.proofs.Common.{◌≡◌, ℕ, List, [], Option, Some, None, Result, Ok, Err, append-nil, map, subst, sym, ◌∙◌, string_bytes}
use Rattle.std.specs.Prelude.{IfOk, IfSome, OnOk, String}
use Rattle.std.specs.Global.{Global, Vec}
use Rattle.std.specs.Io.Buffered.{writer_buffer, writer_contents, writer_inner}
use Rattle.std.specs.Io.KnownBytes.{Keeps, append_known}
use Rattle.std.specs.declared.io.buffered.BufWriter.{BufWriter}
use Rattle.std.proofs.KnownBytes.{Keeps-trans}
use Rattle.std.specs.declared.io.Error.{Error as IoError}
use Rattle.clap.specs.Words.{Kinds, Text}
use Rattle.world_script.specs.ProgramEnd.{Complains, Ends, Says, complaint, name_of, status_of, words_had}
use Rattle.world_script.specs.Process.{EndsWith}
use Rattle.world_script.specs.FaultText.{fault_line}
use Rattle.world_script.specs.Script.{Runs}
use Rattle.world_script.specs.declared.program_end.ProgramEnd.{ProgramEnd}
use Rattle.world_script.specs.declared.program_end.ProgramEnd.TheVariants.{Ran, Told, Untold, Shown, Refused}
use Rattle.world_script.proofs.ProgramEndLemmas.{Appends-from}
use Rattle.world_script.proofs.ReadLemmas.{of_read-map}

Runs-from : (script : List ℕ) (limit : ℕ) (a b c : Option (List ℕ)) → Keeps a b → Runs script limit b c → Runs script limit a c
Runs-from script limit a b c kept runs = record {
  good = runs.good;
  runs = record {
    outcomes = runs.runs.outcomes;
    text = runs.runs.text;
    last = runs.runs.last;
    prints = runs.runs.prints;
    written = Appends-from a b c runs.runs.text kept runs.runs.written;
  };
  promised = runs.promised;
}

pub ends-from : (wrong : Kinds) (path : List ℕ) (script : Option (List ℕ)) (limit : ℕ) (a b c : Option (List ℕ)) (ending : ProgramEnd) →
    Keeps a b → Ends wrong path script limit b c ending → Ends wrong path script limit a c ending
ends-from wrong path script limit a b c Ran kept (none, runs) =
    (none, of_read-map script (λ bytes. Runs bytes limit b c) (λ bytes. Runs bytes limit a c) (λ bytes ran. Runs-from bytes limit a b c kept ran) runs)
ends-from wrong path script limit a b c (Told failure) kept (is, named, line) =
    (is, named, λ first. Appends-from a b c (fault_line failure.fault) kept (line first))
ends-from wrong path script limit a b c (Untold failure error) kept ends = ends
ends-from wrong path script limit a b c (Shown text) kept (wish, among, is, line) = (wish, among, is, Appends-from a b c (string_bytes text) kept line)
ends-from wrong path script limit a b c (Refused text) kept (mistake, among, is, stays) = (mistake, among, is, Keeps-trans a b c kept stays)

complains-from : (name : Option (List ℕ)) (a b c : Option (List ℕ)) → Keeps a b → Complains name b c → Complains name a c
complains-from None a b c kept stays = Keeps-trans a b c kept stays
complains-from (Some name) a b c kept (cause, line) = (cause, Appends-from a b c (complaint name cause) kept line)

says-from : (ending : ProgramEnd) (a b c : Option (List ℕ)) → Keeps a b → Says ending b c → Says ending a c
says-from Ran a b c kept stays = Keeps-trans a b c kept stays
says-from (Told failure) a b c kept says = complains-from (name_of failure) a b c kept says
says-from (Untold failure error) a b c kept (between, first, second) = (between, complains-from (name_of failure) a b between kept first, second)
says-from (Shown text) a b c kept stays = Keeps-trans a b c kept stays
says-from (Refused text) a b c kept line = Appends-from a b c (string_bytes text) kept line

-- what was said goes after bytes that were kept at first, if no write failed
said-from : (said : Result (Unit {0}) IoError) (ending : ProgramEnd) (a b c : Option (List ℕ)) → Keeps a b → OnOk said (Says ending b c) → OnOk said (Says ending a c)
said-from (Ok done) ending a b c kept says = says-from ending a b c kept says
said-from (Err error) ending a b c kept says = tt

-- a process that leaves an output ends as is known of that output, and what it says goes after bytes that were kept at
-- first
pub ends_with : {W : Type 0} (contents : W → Option (List ℕ)) (known : Option (List ℕ) → ProgramEnd → Type 0) (output left : W) (ending : ProgramEnd) (a b c : Option (List ℕ)) (status : ℕ) (said : Result (Unit {0}) IoError) →
    known (contents output) ending → left ≡ output → Keeps a b → status ≡ status_of ending → OnOk said (Says ending b c) → EndsWith (known (contents left)) a c status said
ends_with contents known output left ending a b c status said is same kept status_is says = record {
  ending = ending;
  is = subst (λ w. known (contents w) ending) (sym same) is;
  status_is = status_is;
  says = said-from said ending a b c kept says;
}

-- a process that ends with an ending of which this is known ends with one of which less is known
pub ends_with-map : {known less : ProgramEnd → Type 0} {errors errors_after : Option (List ℕ)} {status : ℕ} {said : Result (Unit {0}) IoError} →
    ((ending : ProgramEnd) → known ending → less ending) → EndsWith known errors errors_after status said → EndsWith less errors errors_after status said
ends_with-map so ends = record { ending = ends.ending; is = so ends.ending ends.is; status_is = ends.status_is; says = ends.says }

nothing_gathered : (a b : Option (List ℕ)) → Keeps a b → Keeps a (append_known b [])
nothing_gathered None b kept = tt
nothing_gathered (Some x) None kept = absurd kept
nothing_gathered (Some x) (Some y) kept = append-nil y ∙ kept

-- a buffer in which nothing is gathered holds what the writer below it does
pub gathered-kept : {W A : Type 0} (contents : W → Option (List ℕ)) (lines : BufWriter W A) (inner : W) (a : Option (List ℕ)) →
    writer_inner lines ≡ inner → writer_buffer lines ≡ [] → Keeps a (contents inner) → Keeps a (writer_contents contents lines)
gathered-kept contents lines inner a is none kept =
    subst (λ w. Keeps a (append_known (contents w) (writer_buffer lines))) (sym is)
    (subst (λ (buffer : List ℕ). Keeps a (append_known (contents inner) buffer)) (sym none) (nothing_gathered a (contents inner) kept))

-- the words that the program got are the known ones
pub words_are : (words : Result (Vec (String Global)) IoError) (known : Option (List Text)) →
    IfOk words (λ all. IfSome known (λ texts. map string_bytes all.items ≡ texts)) → IfOk (words_had words) (λ all. IfSome known (λ texts. all ≡ texts))
words_are (Ok words) known is = is
words_are (Err error) known is = tt
