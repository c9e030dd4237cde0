-- What git prints of entries is read as them.
use Rattle.std.proofs.Common.{◌≡◌, ℕ, ◌+◌, false, List, [], ◌∷◌, ◌++◌, Option, Some, Ok, Err, ap, ◌∙◌}
use Rattle.std.specs.Option.{option_and_then, option_map}
use Rattle.hex.specs.Hex.{encode_lower}
use Rattle.eden_base.specs.Text.{cut}
use Rattle.manifest.proofs.PartsLaws.{has, cut-append, parts-append}
use Rattle.manifest.specs.Manifest.{most_files}
use Rattle.manifest.specs.Placing.{place_fault}
use Rattle.git_tree.proofs.FieldTexts.{mode-words, object-read, object-without, size-read}
use Rattle.git_tree.proofs.RecordLaws.{behind, read_on-ended}
use Rattle.git_tree.specs.GitForm.{files_from, padded, size_printed, AreFormsRead, AreRecordsForm, IsRecordForm}
use Rattle.git_tree.specs.GitMode.{size_in}
use Rattle.git_tree.specs.GitObject.{object_of}
use Rattle.git_tree.specs.GitRecord.{entry_in, entry_of, entry_with, fields_of, Fields, GitEntry}
use Rattle.git_tree.specs.GitTree.{fault_at, files_with_entry, no_files, on_files, placed, read_on, records_of, with_commit}
use Rattle.git_tree.specs.declared.git_files.GitFiles.{GitFiles}

abbrev fields_with : List ℕ → List ℕ → List ℕ → List ℕ × List ℕ → Fields
fields_with mode object_type object s = record { mode = mode; object_type = object_type; object = object; size = s.0; path = s.1 }

abbrev behind_object : List ℕ → List ℕ → List ℕ × List ℕ → Option Fields
behind_object mode object_type o = option_map (fields_with mode object_type o.0) (cut 9 o.1)

abbrev behind_type : List ℕ → List ℕ × List ℕ → Option Fields
behind_type mode t = option_and_then (behind_object mode t.0) (cut 32 t.1)

abbrev behind_mode : List ℕ × List ℕ → Option Fields
behind_mode m = option_and_then (behind_type m.0) (cut 32 m.1)

-- fields without a space and, in the size, without a TAB
fields-split : (mode object_type object size path : List ℕ) → has 32 mode ≡ false → has 32 object_type ≡ false → has 32 object ≡ false → has 9 size ≡ false → fields_of (mode ++ 32 ∷ (object_type ++ 32 ∷ (object ++ 32 ∷ (size ++ 9 ∷ path)))) ≡ Some (fields_with mode object_type object (size, path))
fields-split mode object_type object size path a b c d =
    let last = size ++ 9 ∷ path in
    let more = object ++ 32 ∷ last in
    let rest = object_type ++ 32 ∷ more in
    let first : fields_of (mode ++ 32 ∷ rest) ≡ behind_mode (mode, rest) = ap (option_and_then behind_mode) (cut-append 32 mode rest a) in
    let second : behind_mode (mode, rest) ≡ behind_type mode (object_type, more) = ap (option_and_then (behind_type mode)) (cut-append 32 object_type more b) in
    let third : behind_type mode (object_type, more) ≡ behind_object mode object_type (object, last) = ap (option_and_then (behind_object mode object_type)) (cut-append 32 object last c) in
    let fourth : behind_object mode object_type (object, last) ≡ Some (fields_with mode object_type object (size, path)) = ap (option_map (fields_with mode object_type object)) (cut-append 9 size path d) in
    first ∙ second ∙ third ∙ fourth

-- the text of an entry's record is read as the entry
entry-read : (e : GitEntry) (text : List ℕ) → IsRecordForm e text → entry_of text ≡ Ok e
entry-read e text form =
    let words = mode-words form.digits form.object_type form.mode form.is_mode in
    let object = object-read e.object form.object_has_twenty form.object_has_bytes in
    let size = size-read form.mode form.size form.size_fits in
    let printed = padded (size_printed form.mode form.size) in
    let digits = encode_lower e.object.0 in
    let split = fields-split form.digits form.object_type digits printed e.path words.mode_without words.type_without (object-without e.object.0 form.object_has_bytes) size.has_no_tab in
    ap entry_of form.is ∙ ap entry_in split
    ∙ ap (λ m. entry_with e.path m (object_of digits) (option_and_then (λ mode. size_in mode printed) m)) form.is_mode
    ∙ ap (λ o. entry_with e.path (Some form.mode) o (size_in form.mode printed)) object
    ∙ ap (entry_with e.path (Some form.mode) (Some e.object)) size.is
    ∙ ap (λ file. Ok (record { file = file; object = e.object; path = e.path })) (size.same_file ∙ form.is_file)

-- so are the records of entries
records-read : (entries : List GitEntry) (files : GitFiles) (n : ℕ) (output : List ℕ) → AreRecordsForm entries output → read_on files n (records_of output) ≡ files_from files n entries
records-read [] files n output is = ap (λ o. read_on files n (records_of o)) is
records-read (e ∷ entries) files n output (text, rest, form, is, others) =
    let whole = ap records_of is ∙ parts-append 0 text rest form.is_one_record in
    let said = placed files e (place_fault most_files files.lines e.path) in
    ap (read_on files n) whole ∙ read_on-ended files n text rest ∙ ap (λ r. behind n rest (files_with_entry files r)) (entry-read e text form)
    ∙ (λ i. on_files said (λ longer. records-read entries longer (n + 1) rest others i) (λ fault. Err (fault_at n fault)))

pub forms-read : (commit output : List ℕ) → AreFormsRead commit output
forms-read commit output entries are = ap (with_commit commit) (records-read entries no_files 1 output are)
