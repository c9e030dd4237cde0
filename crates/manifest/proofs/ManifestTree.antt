-- The files and links of a manifest's lines, line by line.
use Rattle.std.proofs.Common.{◌≡◌, ℕ, zero, suc, ◌+◌, ◌-◌, ◌<◌, ◌≤◌, true, false, nat_lt, if◌then◌else◌, List, [], ◌∷◌, ◌++◌, length, Some, None, refl, sym, ap, ◌∙◌, ◌⊎◌, inl, inr, arith}
use Rattle.std.proofs.lemmas.Bool.Decides.{nat_tests}
use Rattle.std.specs.List.{slice_get}
use Rattle.std.specs.Option.{option_map}
use Rattle.eden_base.specs.declared.attr.Kind.TheVariants.{Dir}
use Rattle.std.specs.Ordering.{nat_cmp}
use Rattle.std.specs.Cmp.{nat_cmp_total}
use Rattle.std.specs.FinMap.{get, insert, empty, find, get-empty, nat_cmp-IsAntisymmetric, from_entries, from_entries_push, get-from_entries}
use Rattle.eden_base.specs.declared.number.FileId.{FileId}
use Rattle.manifest.specs.Manifest.{File, Line, IsDirBefore, line_of}
use Rattle.manifest.specs.Tree.{link_cmp, files_from, links_from, root_file}
use Rattle.manifest.proofs.FlatLemmas.{link_cmp_total, link_cmp-same}
use Rattle.manifest.proofs.MapLemmas.{get-insert_cases, get-insert_same, get-insert_other}

abbrev pub file_with : ℕ → FileId
file_with n = record { 0 = n }

pub same_id : (a b : FileId) → a.0 ≡ b.0 → a ≡ b
same_id a b e = λ i. record { 0 = e i }

-- a link of a manifest's tree, and its line
pub record IsLinkOf (lines : List Line) (id : ℕ) (dir : ℕ) (name : List ℕ) (file : FileId) : Type 0 where
  pub place : ℕ
  pub line : Line
  pub here : slice_get lines place ≡ Some line
  pub dir_is : line.dir.0 ≡ dir
  pub name_is : line.name ≡ name
  pub file_is : file.0 ≡ id + place

pub line_of_link : (lines : List Line) (id dir : ℕ) (name : List ℕ) (file : FileId) → get (links_from id lines) (dir, name) ≡ Some file → IsLinkOf lines id dir name file
line_of_link [] id dir name file h = let e = get-empty {X = FileId} link_cmp (dir, name) in absurd (cc)
line_of_link (l ∷ ls) id dir name file h =
    elim (get-insert_cases link_cmp_total link_cmp-same (links_from (id + 1) ls) (l.dir.0, l.name) (record { 0 = id }) (dir, name) file h) [
      | inl w ↦ record { place = 0; line = l; here = refl; dir_is = ap (λ (k : ℕ × List ℕ). k.0) (sym w.0); name_is = ap (λ (k : ℕ × List ℕ). k.1) (sym w.0); file_is = let e = ap (λ (f : FileId). f.0) w.1 in omega arith }
      | inr g ↦ let r = line_of_link ls (id + 1) dir name file g in record { place = suc r.place; line = r.line; here = r.here; dir_is = r.dir_is; name_is = r.name_is; file_is = let e = r.file_is in omega arith }
    ]

-- no two lines stand at one place
pub record AreApart (lines : List Line) : Type 0 where
  pub apart : (i j : ℕ) (a b : Line) → j < i → slice_get lines i ≡ Some a → slice_get lines j ≡ Some b → b.dir ≡ a.dir → b.name ≡ a.name → ⊥

AreApart-tail : (l : Line) (ls : List Line) → AreApart (l ∷ ls) → AreApart ls
AreApart-tail l ls h = record { apart = λ i j a b lt. h.apart (suc i) (suc j) a b (omega arith) }

pub link_of_line : (lines : List Line) (id i : ℕ) (line : Line) → AreApart lines → slice_get lines i ≡ Some line → get (links_from id lines) (line.dir.0, line.name) ≡ Some (record { 0 = id + i })
link_of_line [] id i line h here = cc
link_of_line (l ∷ ls) id zero line h here =
    let same : l ≡ line = cc in
    let e : id ≡ id + 0 = omega arith in
    ap (λ (x : Line). get (links_from id (l ∷ ls)) (x.dir.0, x.name)) (sym same) ∙ get-insert_same link_cmp_total (links_from (id + 1) ls) (l.dir.0, l.name) (record { 0 = id }) ∙ ap (λ n. Some (file_with n)) e
link_of_line (l ∷ ls) id (suc i) line h here =
    get-insert_other link_cmp_total link_cmp-same (links_from (id + 1) ls) (l.dir.0, l.name) (record { 0 = id }) (line.dir.0, line.name)
    (λ e. h.apart (suc i) 0 line l (omega arith) here refl (same_id l.dir line.dir (sym (ap (λ (k : ℕ × List ℕ). k.0) e))) (sym (ap (λ (k : ℕ × List ℕ). k.1) e)))
    ∙ link_of_line ls (id + 1) i line (AreApart-tail l ls h) here ∙ ap (λ n. Some (file_with n)) (omega arith)

slice_get_inside : (lines : List Line) (i : ℕ) → i < length lines → slice_get lines i ≡ None → ⊥
slice_get_inside [] i lt h = omega arith
slice_get_inside (l ∷ ls) zero lt h = cc
slice_get_inside (l ∷ ls) (suc i) lt h = slice_get_inside ls i (omega arith) h

-- files
pub root_of_files : (id : ℕ) (lines : List Line) → 2 ≤ id → get (files_from id lines) 1 ≡ Some root_file
root_of_files id [] h = get-insert_same nat_cmp_total empty 1 root_file
root_of_files id (l ∷ ls) h = get-insert_other nat_cmp_total nat_cmp-IsAntisymmetric (files_from (id + 1) ls) id l.file 1 (λ e. omega arith) ∙ root_of_files (id + 1) ls (omega arith)

pub file_of_line : (id i : ℕ) (lines : List Line) (line : Line) → slice_get lines i ≡ Some line → get (files_from id lines) (id + i) ≡ Some line.file
file_of_line id i [] line h = cc
file_of_line id zero (l ∷ ls) line h =
    let same : l ≡ line = cc in
    let e : id + 0 ≡ id = omega arith in
    rw e (get-insert_same nat_cmp_total (files_from (id + 1) ls) id l.file ∙ ap (λ (x : Line). Some x.file) same)
file_of_line id (suc i) (l ∷ ls) line h =
    get-insert_other nat_cmp_total nat_cmp-IsAntisymmetric (files_from (id + 1) ls) id l.file (id + suc i) (λ e. omega arith)
    ∙ ap (get (files_from (id + 1) ls)) (omega arith) ∙ file_of_line (id + 1) i ls line h

-- a file of a manifest's tree is the root or a line's
pub id_of_file : (id : ℕ) (lines : List Line) (q : ℕ) (file : File) → get (files_from id lines) q ≡ Some file → (q ≡ 1) ⊎ ((id ≤ q) × (q < id + length lines))
id_of_file id [] q file h =
    elim (get-insert_cases nat_cmp_total nat_cmp-IsAntisymmetric empty 1 root_file q file h) [ inl w ↦ inl w.0 | inr g ↦ absurd (let e = get-empty {X = File} nat_cmp q in cc) ]
id_of_file id (l ∷ ls) q file h =
    elim (get-insert_cases nat_cmp_total nat_cmp-IsAntisymmetric (files_from (id + 1) ls) id l.file q file h) [
      | inl w ↦ inr (omega (arith, w.0), omega (arith, w.0))
      | inr g ↦ elim (id_of_file (id + 1) ls q file g) [ inl e ↦ inl e | inr lt ↦ inr (omega (arith, lt.0), omega (arith, lt.1)) ]
    ]

pub file_from_line : (lines : List Line) (file : FileId) (line : Line) → line_of lines file ≡ Some line → get (files_from 2 lines) file.0 ≡ Some line.file
file_from_line lines file line h =
    elim (nat_lt file.0 2) as (λ b. nat_lt file.0 2 ≡ b → (if b then None else slice_get lines (file.0 - 2)) ≡ Some line → get (files_from 2 lines) file.0 ≡ Some line.file) [
      | true ↦ λ e g. cc
      | false ↦ λ e g.
          let at_least : 2 ≤ file.0 = grind (arith, nat_tests) in
          let id : file.0 ≡ 2 + (file.0 - 2) = omega arith in
          ap (get (files_from 2 lines)) id ∙ file_of_line 2 (file.0 - 2) lines line g
    ] refl h

-- what is no line's and not the root isn't there
pub no_file : (lines : List Line) (file : FileId) → (file.0 ≡ 1 → ⊥) → line_of lines file ≡ None → get (files_from 2 lines) file.0 ≡ None
no_file lines file other h =
    elim (get (files_from 2 lines) file.0) as (λ o. get (files_from 2 lines) file.0 ≡ o → o ≡ None) [
      | None ↦ λ e. refl
      | Some f ↦ λ e. absurd (elim (id_of_file 2 lines file.0 f e) [ inl one ↦ other one | inr w ↦ outside w.0 w.1 ])
    ] refl
  where
    outside : 2 ≤ file.0 → file.0 < 2 + length lines → ⊥
    outside low high =
        let test : nat_lt file.0 2 ≡ false = grind (arith, nat_tests) in
        let none : slice_get lines (file.0 - 2) ≡ None = ap (λ b. if b then None else slice_get lines (file.0 - 2)) (sym test) ∙ h in
        slice_get_inside lines (file.0 - 2) (omega arith) none

pub no_later_file : (lines : List Line) (id : ℕ) → length lines + 2 ≤ id → get (files_from 2 lines) id ≡ None
no_later_file lines id later =
    elim (get (files_from 2 lines) id) as (λ o. get (files_from 2 lines) id ≡ o → o ≡ None) [
      | None ↦ λ _. refl
      | Some f ↦ λ e. absurd (elim (id_of_file 2 lines id f e) [ inl one ↦ omega (arith, one, later) | inr w ↦ omega (arith, w.1, later) ])
    ] refl

pub line_at : (lines : List Line) (i : ℕ) → i < length lines → (line : Line) × (slice_get lines i ≡ Some line)
line_at [] i lt = absurd (omega arith)
line_at (l ∷ ls) zero lt = (l, refl)
line_at (l ∷ ls) (suc i) lt = line_at ls i (omega arith)

-- a directory of the lines is the root or an earlier line's
pub dir_before : (lines : List Line) (dir : FileId) → option_map (λ (f : File). f.kind) (get (files_from 2 lines) dir.0) ≡ Some Dir → IsDirBefore lines (length lines) dir
dir_before lines dir h =
    elim (get (files_from 2 lines) dir.0) as (λ o. get (files_from 2 lines) dir.0 ≡ o → option_map (λ (f : File). f.kind) o ≡ Some Dir → IsDirBefore lines (length lines) dir) [
      | None ↦ λ e k. cc
      | Some f ↦ λ e k. elim (id_of_file 2 lines dir.0 f e) [
        | inl one ↦ inl one
        | inr w ↦
            let at = line_at lines (dir.0 - 2) (omega (arith, w.0, w.1)) in
            let id : dir.0 ≡ 2 + (dir.0 - 2) = omega (arith, w.0) in
            let same : at.0.file ≡ f = let g = file_of_line 2 (dir.0 - 2) lines at.0 at.1 in let i = ap (get (files_from 2 lines)) id in cc in
            let kind : at.0.file.kind ≡ Dir = cc in
            inr (dir.0 - 2, at.0, omega (arith, w.0, w.1), omega (arith, w.0), at.1, kind)
      ]
    ] refl h

-- links as pairs
abbrev numbered : ℕ → List Line → List ((ℕ × List ℕ) × FileId)
numbered id [] = []
numbered id (l ∷ ls) = ((l.dir.0, l.name), file_with id) ∷ numbered (id + 1) ls

links_from-numbered : (id : ℕ) (lines : List Line) → links_from id lines ≡ from_entries (numbered id lines)
links_from-numbered id [] = refl
links_from-numbered id (l ∷ ls) = ap (λ m. insert m (l.dir.0, l.name) (file_with id)) (links_from-numbered (id + 1) ls)

numbered-push : (id : ℕ) (lines : List Line) (l : Line) → numbered id (lines ++ l ∷ []) ≡ numbered id lines ++ ((l.dir.0, l.name), file_with (id + length lines)) ∷ []
numbered-push id [] l = ap (λ n. ((l.dir.0, l.name), file_with n) ∷ []) (omega arith)
numbered-push id (x ∷ xs) l =
    ap (λ es. ((x.dir.0, x.name), file_with id) ∷ es) (numbered-push (id + 1) xs l ∙ ap (λ n. numbered (id + 1) xs ++ ((l.dir.0, l.name), file_with n) ∷ []) (omega arith))

-- a line at a new place adds its link
pub links_from-push : (id : ℕ) (lines : List Line) (l : Line) → get (links_from id lines) (l.dir.0, l.name) ≡ None → links_from id (lines ++ l ∷ []) ≡ insert (links_from id lines) (l.dir.0, l.name) (file_with (id + length lines))
links_from-push id lines l new =
    let none : find link_cmp (l.dir.0, l.name) (numbered id lines) ≡ None = sym (get-from_entries link_cmp_total (numbered id lines) (l.dir.0, l.name)) ∙ ap (λ m. get m (l.dir.0, l.name)) (sym (links_from-numbered id lines)) ∙ new in
    links_from-numbered id (lines ++ l ∷ []) ∙ ap from_entries (numbered-push id lines l)
    ∙ from_entries_push link_cmp_total link_cmp-same (numbered id lines) (l.dir.0, l.name) (file_with (id + length lines)) none
    ∙ ap (λ m. insert m (l.dir.0, l.name) (file_with (id + length lines))) (sym (links_from-numbered id lines))
