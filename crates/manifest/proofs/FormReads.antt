-- Each text of a manifest is read as it.
use Rattle.std.proofs.Common.{◌≡◌, ℕ, zero, suc, ◌+◌, ◌<◌, ◌≤◌, inl, inr, ◌==◌, ◌||◌, Bool, true, false, nat_le, nat_lt, List, [], ◌∷◌, ◌++◌, codes, length, Option, Some, None, is_none, unwrap_or, Ok, Err, refl, sym, ap, subst, ◌∙◌, arith, if◌then◌else◌}
use Rattle.std.proofs.lemmas.Bool.{and_parts}
use Rattle.std.proofs.lemmas.Bool.Decides.{nat_tests}
use Rattle.std.proofs.lemmas.List.{append_assoc, append-nil}
use Rattle.std.proofs.lemmas.Option.{slice_get_within}
use Rattle.std.specs.Fmt.{decimal}
use Rattle.std.specs.FinMap.{get}
use Rattle.std.specs.List.{list_all, list_any, slice_get}
use Rattle.std.specs.Option.{option_map, option_and_then}
use Rattle.std.specs.Result.{result_ok}
use Rattle.eden_base.specs.Limits.{greatest_size}
use Rattle.eden_base.specs.Name.{is_separator, is_dots}
use Rattle.eden_base.specs.Text.{cut}
use Rattle.eden_base.specs.declared.attr.Kind.{Kind}
use Rattle.eden_base.specs.declared.attr.Kind.TheVariants.{Dir, Link, File as RegularFile}
use Rattle.eden_base.specs.declared.attr.Perm.{Perm}
use Rattle.eden_base.specs.declared.name.NameFault.TheVariants.{Empty, TooLong, BadByte, Dots}
use Rattle.eden_base.specs.declared.number.FileId.{FileId}
use Rattle.manifest.specs.Manifest.{File, Line, Manifest, IsLine, AreLines, IsManifest, most_lines}
use Rattle.manifest.specs.ManifestForm.{IsManifestForm, IsLineForm, AreLinesForm, IsSayable, fields_text, path_text, mode_text}
use Rattle.manifest.specs.ManifestText.{ManifestEntry, entry_of, line_fault, placed, line_of_entry, line_of_text, on_line, read_on, fault_at, lines_of, commit_of, after_commit, with_commit, manifest_of_lines, manifest_of}
use Rattle.manifest.specs.Placing.{names_of, tree_so_far, only_dir, parent_of, place_fault}
use Rattle.manifest.specs.Names.{is_name}
use Rattle.manifest.specs.Text.{front, last, mode_of, size_of}
use Rattle.manifest.specs.Tree.{Tree, root, file_at, kind_of, child_of, is_dir, files_from, link_perm}
use Rattle.hex.specs.Hex.{decode_sized}
use Rattle.manifest.proofs.FieldForms.{mode_of-mode_text, size_of-decimal_text, size-without, mode-without}
use Rattle.manifest.proofs.FormLaws.{place_test}
use Rattle.manifest.proofs.HexForms.{hex-one_line, sized_of_hex}
use Rattle.manifest.proofs.ManifestTree.{same_id, line_of_link, root_of_files, file_of_line}
use Rattle.manifest.proofs.PartsLaws.{has, all_without, cut-append, parts-append, parts-joined, front-push, last-push}
use Rattle.manifest.proofs.ReadLemmas.{read_on-more, after_commit-some}

-- ---- names

separators : (xs : List ℕ) → list_any is_separator xs ≡ false → has 47 xs ≡ false
separators [] h = refl
separators (x ∷ xs) h =
    elim (x == 47) as (λ t. ((t || (x == 0)) || list_any is_separator xs) ≡ false → (t || has 47 xs) ≡ false) [
      | true ↦ λ g. absurd (cc)
      | false ↦ λ g. elim (x == 0) as (λ t. (t || list_any is_separator xs) ≡ false → has 47 xs ≡ false) [ true ↦ λ w. absurd (cc) | false ↦ λ w. separators xs w ] g
    ] h

faulty : (a b : Bool) → is_none (if a then Some Empty else if b then Some TooLong else Some BadByte) ≡ true → ⊥
faulty true b h = cc
faulty false true h = cc
faulty false false h = cc

name-without : (name : List ℕ) → is_name name ≡ true → has 47 name ≡ false
name-without name h =
    elim (list_any is_separator name) as (λ t. list_any is_separator name ≡ t → is_none (if nat_lt (length name) 1 then Some Empty else if nat_lt 255 (length name) then Some TooLong else if t then Some BadByte else if is_dots name then Some Dots else None) ≡ true → has 47 name ≡ false) [
      | false ↦ λ e g. separators name e
      | true ↦ λ e g. absurd (faulty (nat_lt (length name) 1) (nat_lt 255 (length name)) g)
    ] refl h

names-without : (ns : List (List ℕ)) → list_all is_name ns ≡ true → all_without 47 ns
names-without [] h = tt
names-without (n ∷ ns) h = let p = and_parts (is_name n) (list_all is_name ns) h in (name-without n p.0, names-without ns p.1)

-- ---- entries

-- the entry that a line says
abbrev entry : Kind → Option Perm → Option ℕ → List ℕ → ManifestEntry
entry kind perm size path = record { kind = kind; perm = perm; size = size; path = path }

entry-file : (perm : Perm) (size : ℕ) (path : List ℕ) → size ≤ greatest_size → entry_of (fields_text RegularFile perm size ++ path) ≡ Some (entry RegularFile (Some perm) (Some size) path)
entry-file perm size path small =
    let rest = mode_text perm ++ 32 ∷ (decimal size ++ 32 ∷ path) in
    let apart : fields_text RegularFile perm size ++ path ≡ codes "file " ++ rest = ap (λ xs. codes "file " ++ mode_text perm ++ 32 ∷ xs) (append_assoc (decimal size) (32 ∷ []) path) in
    let first = cut-append 32 (mode_text perm) (decimal size ++ 32 ∷ path) (mode-without perm) in
    let second = cut-append 32 (decimal size) path (size-without size small) in
    ap entry_of apart
    ∙ ap (option_and_then (λ (m : List ℕ × List ℕ). option_map (λ (s : List ℕ × List ℕ). entry RegularFile (mode_of m.0) (size_of s.0) s.1) (cut 32 m.1))) first
    ∙ ap (option_map (λ (s : List ℕ × List ℕ). entry RegularFile (mode_of (mode_text perm)) (size_of s.0) s.1)) second
    ∙ (λ i. Some (entry RegularFile (mode_of-mode_text perm i) (size_of-decimal_text size small i) path))

entry-link : (size : ℕ) (path : List ℕ) → size ≤ greatest_size → entry_of (fields_text Link link_perm size ++ path) ≡ Some (entry Link (Some link_perm) (Some size) path)
entry-link size path small =
    let apart : fields_text Link link_perm size ++ path ≡ codes "link " ++ (decimal size ++ 32 ∷ path) = ap (λ xs. codes "link " ++ xs) (append_assoc (decimal size) (32 ∷ []) path) in
    ap entry_of apart ∙ ap (option_map (λ (s : List ℕ × List ℕ). entry Link (Some link_perm) (size_of s.0) s.1)) (cut-append 32 (decimal size) path (size-without size small))
    ∙ (λ i. Some (entry Link (Some link_perm) (size_of-decimal_text size small i) path))

entry-line : (file : File) (path : List ℕ) → IsSayable file.kind file → file.size ≤ greatest_size → entry_of (fields_text file.kind file.perm file.size ++ path) ≡ Some (entry file.kind (Some file.perm) (Some file.size) path)
entry-line file path sayable small =
    elim file.kind as (λ k. IsSayable k file → entry_of (fields_text k file.perm file.size ++ path) ≡ Some (entry k (Some file.perm) (Some file.size) path)) [
      | Dir ↦ λ h. let back = sym h in λ i. Some (entry Dir (Some (back i).perm) (Some (back i).size) path)
      | RegularFile ↦ λ h. entry-file file.perm file.size path small
      | Link ↦ λ h. subst (λ (p : Perm). entry_of (fields_text Link p file.size ++ path) ≡ Some (entry Link (Some p) (Some file.size) path)) (sym h) (entry-link file.size path small)
    ] sayable

-- ---- places

slice_get-left : (xs ys : List Line) (j : ℕ) → j < length xs → slice_get (xs ++ ys) j ≡ slice_get xs j
slice_get-left [] ys j h = absurd (omega arith)
slice_get-left (x ∷ xs) ys zero h = refl
slice_get-left (x ∷ xs) ys (suc j) h = slice_get-left xs ys j (omega arith)

slice_get-here : (xs : List Line) (y : Line) (ys : List Line) → slice_get (xs ++ y ∷ ys) (length xs) ≡ Some y
slice_get-here [] y ys = refl
slice_get-here (x ∷ xs) y ys = slice_get-here xs y ys

longer : (xs : List Line) (y : Line) (ys : List Line) → length xs < length (xs ++ y ∷ ys)
longer [] y ys = omega arith
longer (x ∷ xs) y ys = let h = longer xs y ys in omega (arith, h)

module _ (above : List Line) (line : Line) (below : List Line) (are : AreLines (above ++ line ∷ below)) (all_few : length (above ++ line ∷ below) ≤ most_lines) where
  abbrev tree : Tree
  tree = tree_so_far above

  is_line : IsLine (above ++ line ∷ below) (length above) line
  is_line = are.each (length above) line (slice_get-here above line below)

  dir_kind : kind_of tree line.dir ≡ Some Dir
  dir_kind = elim is_line.dir_before [
    | inl e ↦ ap (kind_of tree) (same_id line.dir root e) ∙ ap (λ (o : Option File). option_map (λ (f : File). f.kind) o) (root_of_files 2 above (omega arith))
    | inr (j, over, lt, e, here, kind) ↦
        let at : line.dir.0 ≡ 2 + j = omega (arith, e) in
        let there = sym (slice_get-left above (line ∷ below) j lt) ∙ here in
        ap (λ (o : Option File). option_map (λ (f : File). f.kind) o) (ap (get (files_from 2 above)) at ∙ file_of_line 2 j above over there) ∙ ap (λ k. Some k) kind
  ]

  is_new : (o : Option FileId) → child_of tree line.dir line.name ≡ o → o ≡ None
  is_new None e = refl
  is_new (Some file) e =
      let r = line_of_link above 2 line.dir.0 line.name file e in
      let lt : r.place < length above = slice_get_within above r.place r.line r.here in
      absurd (is_line.place_is_new r.place r.line lt (slice_get-left above (line ∷ below) r.place lt ∙ r.here) (same_id r.line.dir line.dir r.dir_is) r.name_is)

  few : nat_le most_lines (length above) ≡ false
  few = let h = longer above line below in let m = all_few in grind (arith, nat_tests)

  -- the line is read where its path is these names
  module _ (names : List (List ℕ)) (lead : file_at tree root names ≡ Some line.dir) (are_names : list_all is_name (names ++ line.name ∷ []) ≡ true) where
    abbrev path : List ℕ
    path = path_text (names ++ line.name ∷ [])

    parted : names_of path ≡ names ++ line.name ∷ []
    parted = parts-joined 47 names line.name (names-without (names ++ line.name ∷ []) are_names)

    last_is : last (names_of path) ≡ line.name
    last_is = ap last parted ∙ last-push names line.name

    parent_is : parent_of above path ≡ Some line.dir
    parent_is =
        ap (λ ns. option_and_then (only_dir tree) (file_at tree root (front ns))) parted ∙ ap (λ ns. option_and_then (only_dir tree) (file_at tree root ns)) (front-push names line.name)
        ∙ ap (option_and_then (only_dir tree)) lead ∙ ap (λ k. if is_dir k then Some line.dir else None) dir_kind

    child_is : child_of tree (unwrap_or (parent_of above path) root) (last (names_of path)) ≡ None
    child_is = (λ i. child_of tree (unwrap_or (parent_is i) root) (last_is i)) ∙ is_new _ refl

    no_fault : place_fault most_lines above path ≡ None
    no_fault = λ i. place_test ((ap (list_all is_name) parted ∙ are_names) i) (parent_is i) (child_is i) (few i)

    entry_read : line_of_entry above (Some (entry line.file.kind (Some line.file.perm) (Some line.file.size) path)) ≡ Ok line
    entry_read =
        let e = entry line.file.kind (Some line.file.perm) (Some line.file.size) path in
        ap (λ o. placed above e (option_map line_fault o)) no_fault ∙ (λ i. Ok (record { dir = unwrap_or (parent_is i) root; name = last_is i; file = line.file }))

  pub line_read : (text : List ℕ) → IsLineForm above line text → line_of_text above text ≡ Ok line
  line_read text f =
      ap (line_of_text above) f.is ∙ ap (line_of_entry above) (entry-line line.file (path_text (f.names ++ line.name ∷ [])) f.is_sayable is_line.size)
      ∙ entry_read f.names f.lead f.are_names

-- ---- lines

lines_read : (lines above : List Line) (n : ℕ) (text : List ℕ) → AreLines (above ++ lines) → length (above ++ lines) ≤ most_lines → AreLinesForm above lines text → read_on above n (lines_of text) ≡ Ok (above ++ lines)
lines_read [] above n text are all_few is = ap (λ t. read_on above n (lines_of t)) is ∙ ap (λ ls. Ok ls) (sym (append-nil above))
lines_read (line ∷ lines) above n text are all_few (first, rest, form, is, others) =
    let whole = ap lines_of is ∙ parts-append 10 first rest form.is_one_line in
    let again : (above ++ line ∷ []) ++ lines ≡ above ++ line ∷ lines = append_assoc above (line ∷ []) lines in
    let read = line_read above line lines are all_few first form in
    ap (read_on above n) whole ∙ read_on-more above n first rest
    ∙ ap (λ r. on_line r (λ (l : Line). read_on (above ++ l ∷ []) (n + 1) (lines_of rest)) (λ fault. Err (fault_at n fault))) read
    ∙ lines_read lines (above ++ line ∷ []) (n + 1) rest (subst AreLines (sym again) are) (subst (λ (ls : List Line). length ls ≤ most_lines) (sym again) all_few) others ∙ ap (λ ls. Ok ls) again

-- ---- the whole

commit_read : (bytes digits : List ℕ) → length bytes ≡ 20 → decode_sized digits 20 ≡ Ok bytes → commit_of (codes "commit " ++ digits) ≡ Some bytes
commit_read bytes digits twenty h = ap (λ r. result_ok r) h

pub read_of_form : (text : List ℕ) (m : Manifest) → IsManifest m → IsManifestForm m text → manifest_of text ≡ Ok m
read_of_form text m is form =
    let line = codes "commit " ++ form.digits in
    let whole = ap lines_of form.is ∙ parts-append 10 line form.rest (hex-one_line m.commit form.digits form.is_hex) in
    let commit = commit_read m.commit form.digits is.commit (sized_of_hex m.commit form.digits is.commit form.is_hex) in
    let lines = lines_read m.lines [] 2 form.rest is.lines form.few form.are_lines in
    ap (λ digest. manifest_of_lines digest (lines_of text)) form.has_digest ∙ ap (manifest_of_lines m.digest) whole
    ∙ ap (λ o. after_commit m.digest o (lines_of form.rest)) commit ∙ after_commit-some m.digest m.commit form.rest ∙ ap (with_commit m.digest m.commit) lines
