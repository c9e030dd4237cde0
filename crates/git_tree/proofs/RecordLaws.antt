-- Reading goes on behind a record, or ends at the record's fault.
use Rattle.std.proofs.Common.{◌≡◌, ℕ, ◌+◌, ◌<◌, ◌≤◌, List, [], ◌∷◌, length, Option, Some, None, Result, Ok, Err, IsOk, IfErr, refl, ap, ◌∙◌, arith}
use Rattle.std.proofs.lemmas.List.{length_push}
use Rattle.manifest.proofs.TextLemmas.{some_part}
use Rattle.manifest.specs.Manifest.{most_files}
use Rattle.manifest.specs.Placing.{line_at, place_fault}
use Rattle.manifest.specs.declared.fault.PlaceFault.{PlaceFault}
use Rattle.git_tree.specs.GitRecord.{GitEntry, entry_of}
use Rattle.git_tree.specs.GitTree.{fault_at, files_with, files_with_entry, on_files, placed, read_on, records_of, with_commit, with_entry, IsRecordRefusal, IsRefusal}
use Rattle.git_tree.specs.declared.fault.GitTreeFault.{GitTreeFault}
use Rattle.git_tree.specs.declared.fault.GitTreeFaultKind.{GitTreeFaultKind}
use Rattle.git_tree.specs.declared.fault.GitTreeFaultKind.TheVariants.{BadRecord, BadMode, BadObject, BadSize, BadPath, NoParent, Twice, TooManyFiles, NoMemory}
use Rattle.git_tree.specs.declared.git_files.GitFiles.{GitFiles}

-- what reading gives behind a record, by what the record gives
abbrev pub behind : ℕ → List ℕ → Result GitFiles GitTreeFaultKind → Result GitFiles GitTreeFault
behind n rest said = on_files said (λ longer. read_on longer (n + 1) (records_of rest)) (λ fault. Err (fault_at n fault))

-- a record that is ended
pub read_on-ended : (files : GitFiles) (n : ℕ) (text rest : List ℕ) → read_on files n (text ∷ records_of rest) ≡ behind n rest (files_with files text)
read_on-ended files n [] rest = let r = some_part 0 rest in rw r.2 refl
read_on-ended files n (b ∷ bs) rest = let r = some_part 0 rest in rw r.2 refl

-- bytes that are not ended
pub read_on-unended : (files : GitFiles) (n : ℕ) (text : List ℕ) → 0 < length text → read_on files n (text ∷ []) ≡ Err (fault_at n BadRecord)
read_on-unended files n [] some = absurd (omega arith)
read_on-unended files n (b ∷ bs) some = refl

-- a record that is taken
pub read_on-taken : (files new : GitFiles) (n : ℕ) (text rest : List ℕ) → files_with files text ≡ Ok new → read_on files n (text ∷ records_of rest) ≡ read_on new (n + 1) (records_of rest)
read_on-taken files new n text rest taken = read_on-ended files n text rest ∙ ap (behind n rest) taken

-- a fault stands at this record or later
abbrev IsFrom : ℕ → Result GitFiles GitTreeFault → Type 0
IsFrom n said = IfErr said (λ (f : GitTreeFault). n ≤ f.number)

earlier : (n : ℕ) (said : Result GitFiles GitTreeFault) → IsFrom (n + 1) said → IsFrom n said
earlier n (Ok files) h = tt
earlier n (Err fault) h = omega (arith, h)

-- no fault is told of an earlier record than the first that is read
faults_follow : (texts : List (List ℕ)) (files : GitFiles) (n : ℕ) → IsFrom n (read_on files n texts)
faults_follow [] files n = tt
faults_follow ([] ∷ []) files n = tt
faults_follow ((b ∷ bs) ∷ []) files n = omega arith
faults_follow (text ∷ next ∷ more) files n = elim (files_with files text) as (λ said. IsFrom n (on_files said (λ longer. read_on longer (n + 1) (next ∷ more)) (λ fault. Err (fault_at n fault)))) [
  | Ok longer ↦ earlier n _ (faults_follow (next ∷ more) longer (n + 1))
  | Err fault ↦ omega arith
]

-- where memory is refused for a record without a fault, no record up to it has one
no_memory : (said : Result GitFiles GitTreeFaultKind) (n : ℕ) (rest : List ℕ) → IsOk said → IfErr (behind n rest said) (λ (f : GitTreeFault). n < f.number)
no_memory (Ok longer) n rest ok = elim (read_on longer (n + 1) (records_of rest)) as (λ r. IsFrom (n + 1) r → IfErr r (λ (f : GitTreeFault). n < f.number)) [ Ok files ↦ λ _. tt | Err fault ↦ λ h. omega (arith, h) ] (faults_follow (records_of rest) longer (n + 1))
no_memory (Err fault) n rest ok = absurd (cc)

-- a refused record refuses the output
refused_behind : (said : Result GitFiles GitTreeFaultKind) (n : ℕ) (rest : List ℕ) (kind : GitTreeFaultKind) → IsRecordRefusal said kind → IsRefusal (behind n rest said) n kind
refused_behind said n rest NoMemory h = no_memory said n rest h
refused_behind said n rest BadRecord h = ap (behind n rest) h
refused_behind said n rest BadMode h = ap (behind n rest) h
refused_behind said n rest BadObject h = ap (behind n rest) h
refused_behind said n rest BadSize h = ap (behind n rest) h
refused_behind said n rest BadPath h = ap (behind n rest) h
refused_behind said n rest NoParent h = ap (behind n rest) h
refused_behind said n rest Twice h = ap (behind n rest) h
refused_behind said n rest TooManyFiles h = ap (behind n rest) h

pub read_on-refused : (files : GitFiles) (n : ℕ) (text rest : List ℕ) (kind : GitTreeFaultKind) → IsRecordRefusal (files_with files text) kind → IsRefusal (read_on files n (text ∷ records_of rest)) n kind
read_on-refused files n text rest kind h = rw (read_on-ended files n text rest) (refused_behind (files_with files text) n rest kind h)

-- refused files refuse the tree
pub commit-refused : (commit : List ℕ) (said : Result GitFiles GitTreeFault) (n : ℕ) (kind : GitTreeFaultKind) → IsRefusal said n kind → IsRefusal (with_commit commit said) n kind
commit-refused commit (Ok files) n NoMemory h = tt
commit-refused commit (Err fault) n NoMemory h = h
commit-refused commit said n BadRecord h = ap (with_commit commit) h
commit-refused commit said n BadMode h = ap (with_commit commit) h
commit-refused commit said n BadObject h = ap (with_commit commit) h
commit-refused commit said n BadSize h = ap (with_commit commit) h
commit-refused commit said n BadPath h = ap (with_commit commit) h
commit-refused commit said n NoParent h = ap (with_commit commit) h
commit-refused commit said n Twice h = ap (with_commit commit) h
commit-refused commit said n TooManyFiles h = ap (with_commit commit) h

-- a file that is taken is one more, with its object
pub record IsOneMore (old new : GitFiles) : Type 0 where
  pub objects : length new.objects ≡ length old.objects + 1
  pub lines : length new.lines ≡ length old.lines + 1

entry-one_more : (old new : GitFiles) (e : GitEntry) (fault : Option PlaceFault) → placed old e fault ≡ Ok new → IsOneMore old new
entry-one_more old new e (Some fault) h = absurd (cc)
entry-one_more old new e None h =
    let same : with_entry old e ≡ new = cc in
    let object = length_push old.objects e.object in
    let line = length_push old.lines (line_at old.lines e.path e.file) in
    let objects = ap (λ (f : GitFiles). length f.objects) same in
    let lines = ap (λ (f : GitFiles). length f.lines) same in
    record { objects = omega (arith, object, objects); lines = omega (arith, line, lines) }

pub taken-one_more : (old new : GitFiles) (text : List ℕ) → files_with old text ≡ Ok new → IsOneMore old new
taken-one_more old new text h = elim (entry_of text) as (λ said. files_with_entry old said ≡ Ok new → IsOneMore old new) [
  | Err fault ↦ λ g. absurd (cc)
  | Ok e ↦ λ g. entry-one_more old new e (place_fault most_files old.lines e.path) g
] h
