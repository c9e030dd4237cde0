-- Where the files of a manifest's lines stand.
use Rattle.std.proofs.Common.{◌≡◌, ℕ, ◌+◌, ◌-◌, ◌&&◌, Bool, true, false, nat_lt, List, [], ◌∷◌, ◌++◌, length, Option, Some, None, MatchOption, IsSomeAnd, refl, sym, ap, subst, ◌∙◌, ◌⊎◌, inl, inr, arith}
use Rattle.std.proofs.lemmas.Bool.Decides.{nat_tests}
use Rattle.std.proofs.lemmas.Option.{slice_get_within}
use Rattle.std.specs.FinMap.{get, get-empty, insert}
use Rattle.std.specs.List.{slice_get}
use Rattle.std.specs.Option.{option_map}
use Rattle.directory_index.proofs.Standings.{place-or, same-number}
use Rattle.directory_index.specs.Index.{IsIndexOf}
use Rattle.directory_index.specs.Standing.{inserted, is_place, nothing, AreKnown, Standing, StandsNowhere}
use Rattle.directory_index.specs.declared.directory_index.DirectoryIndex.{DirectoryIndex}
use Rattle.eden_base.specs.declared.number.FileId.{FileId}
use Rattle.manifest.specs.Manifest.{Line, line_of}
use Rattle.manifest.specs.Places.{place_of, standing_of}
use Rattle.manifest.specs.Tree.{link_cmp, links_from}
use Rattle.manifest.proofs.FlatLemmas.{link_cmp_total, link_cmp-same}
use Rattle.manifest.proofs.ManifestTree.{IsLinkOf, file_with, line_of_link, links_from-push, same_id}
use Rattle.manifest.proofs.MapLemmas.{get-insert_same, get-insert_other}

-- both tests hold
pub both : (a b : Bool) → (a && b) ≡ true → (a ≡ true) × (b ≡ true)
both true b h = (refl, h)
both false b h = absurd (let no : ⊥ = cc in no)

abbrev id_in : Option FileId → Option ℕ
id_in file = option_map (λ (f : FileId). f.0) file

-- a file is told by its id
pub file-told : (file found : Option FileId) (id : Option ℕ) → id ≡ id_in file → MatchOption id (found ≡ None) (λ n. IsSomeAnd found (λ f. f.0 ≡ n)) → found ≡ file
file-told None found None e is = is
file-told None found (Some n) e is = absurd (let no : ⊥ = cc in no)
file-told (Some file) found None e is = absurd (let no : ⊥ = cc in no)
file-told (Some file) None (Some n) e is = absurd is
file-told (Some file) (Some f) (Some n) e is = ap Some (same_id f file (is ∙ same-number n file.0 e))

-- what stands at a place has its line there
link_of : (lines : List Line) (dir : ℕ) (name : List ℕ) (id : ℕ) → standing_of lines dir name ≡ Some id → IsLinkOf lines 2 dir name (file_with id)
link_of lines dir name id e = in_ (get (links_from 2 lines) (dir, name)) refl e where
  in_ : (o : Option FileId) → get (links_from 2 lines) (dir, name) ≡ o → id_in o ≡ Some id → IsLinkOf lines 2 dir name (file_with id)
  in_ None h t = absurd (let no : ⊥ = cc in no)
  in_ (Some file) h t = line_of_link lines 2 dir name (file_with id) (h ∙ ap Some (same_id file (file_with id) (same-number file.0 id t)))

-- so the lines know where each file stands
pub lines-know : (lines : List Line) → AreKnown (standing_of lines) (place_of lines)
lines-know lines dir name id e =
    let r = link_of lines dir name id e in
    let is : id ≡ 2 + r.place = r.file_is in
    let low : nat_lt id 2 ≡ false = grind (arith, nat_tests) in
    let place : id - 2 ≡ r.place = omega arith in
    let line : line_of lines (file_with id) ≡ slice_get lines (id - 2) = rw low refl in
    ap (option_map (λ (l : Line). (l.dir.0, l.name))) (line ∙ ap (slice_get lines) place ∙ r.here) ∙ ap Some (λ i. (r.dir_is i, r.name_is i))

pub same_lines-know : (lines same : List Line) → same ≡ lines → AreKnown (standing_of lines) (place_of same)
same_lines-know lines same e = subst (λ (ls : List Line). AreKnown (standing_of lines) (place_of ls)) (sym e) (lines-know lines)

-- the id of the next line stands nowhere
pub next-nowhere : (lines : List Line) → StandsNowhere (standing_of lines) (length lines + 2)
next-nowhere lines dir name e =
    let r = link_of lines dir name (length lines + 2) e in
    let within = slice_get_within lines r.place r.line r.here in
    omega (arith, r.file_is, within)

-- without lines nothing stands
pub standing-none : standing_of [] ≡ nothing
standing-none = λ i dir name. ap id_in (get-empty {X = FileId} link_cmp (dir, name)) i

-- a line at a new place was inserted there
pub standing-push : (lines : List Line) (line : Line) → get (links_from 2 lines) (line.dir.0, line.name) ≡ None →
    standing_of (lines ++ line ∷ []) ≡ inserted (standing_of lines) line.dir.0 line.name (length lines + 2)
standing-push lines line new = λ i dir name. (ap (λ m. id_in (get m (dir, name))) (links_from-push 2 lines line new) ∙ at dir name (place-or dir name line.dir.0 line.name)) i where
  at : (dir : ℕ) (name : List ℕ) → ((is_place dir name line.dir.0 line.name ≡ true) × ((dir ≡ line.dir.0) × (name ≡ line.name))) ⊎ ((is_place dir name line.dir.0 line.name ≡ false) × ((dir ≡ line.dir.0) → (name ≡ line.name) → ⊥)) →
      id_in (get (insert (links_from 2 lines) (line.dir.0, line.name) (file_with (2 + length lines))) (dir, name)) ≡ inserted (standing_of lines) line.dir.0 line.name (length lines + 2) dir name
  at dir name (inl p) =
      let here : ◌≡◌ {A = ℕ × List ℕ} (dir, name) (line.dir.0, line.name) = λ i. (p.1.0 i, p.1.1 i) in
      let id : 2 + length lines ≡ length lines + 2 = omega arith in
      rw p.0 (ap (λ k. id_in (get (insert (links_from 2 lines) (line.dir.0, line.name) (file_with (2 + length lines))) k)) here ∙ ap id_in (get-insert_same link_cmp_total (links_from 2 lines) (line.dir.0, line.name) (file_with (2 + length lines))) ∙ ap Some id)
  at dir name (inr p) =
      let other : ◌≡◌ {A = ℕ × List ℕ} (dir, name) (line.dir.0, line.name) → ⊥ = λ e. p.1 (ap (λ (k : ℕ × List ℕ). k.0) e) (ap (λ (k : ℕ × List ℕ). k.1) e) in
      rw p.0 (ap id_in (get-insert_other link_cmp_total link_cmp-same (links_from 2 lines) (line.dir.0, line.name) (file_with (2 + length lines)) (dir, name) other))

-- so an index of the lines, with the line's place and id told in other words, is one of the lines with it
pub index-push : (lines : List Line) (line : Line) (old new : DirectoryIndex) → IsIndexOf (standing_of lines) old → get (links_from 2 lines) (line.dir.0, line.name) ≡ None →
    (dir : ℕ) (name : List ℕ) (id : ℕ) → dir ≡ line.dir.0 → name ≡ line.name → id ≡ length lines + 2 →
    ((at : Standing) → IsIndexOf at old → at dir name ≡ None → StandsNowhere at id → IsIndexOf (inserted at dir name id) new) → IsIndexOf (standing_of (lines ++ line ∷ [])) new
index-push lines line old new is free dir name id d n e put =
    subst (λ (at : Standing). IsIndexOf at new)
    (ap (λ (x : ℕ). inserted (standing_of lines) x name id) d ∙ ap (λ (q : List ℕ). inserted (standing_of lines) line.dir.0 q id) n ∙ ap (inserted (standing_of lines) line.dir.0 line.name) e ∙ sym (standing-push lines line free))
    (put (standing_of lines) is (ap (λ (x : ℕ). standing_of lines x name) d ∙ ap (standing_of lines line.dir.0) n ∙ ap id_in free)
    (subst (StandsNowhere (standing_of lines)) (sym e) (next-nowhere lines)))
