-- The first file of a directory from an id on, as an index of the links tells it.
use Rattle.std.proofs.Common.{◌≡◌, ℕ, ◌+◌, ◌-◌, ◌<◌, ◌≤◌, true, false, nat_lt, if◌then◌else◌, List, Option, Some, None, IfSome, IsSomeAnd, MatchOption, refl, sym, ap, subst, ◌∙◌, arith}
use Rattle.std.proofs.lemmas.Bool.Decides.{nat_tests}
use Rattle.std.proofs.lemmas.Option.{slice_get_within}
use Rattle.std.specs.FinMap.{FinMap, get}
use Rattle.std.specs.List.{slice_get}
use Rattle.std.specs.Option.{option_map}
use Rattle.directory_index.proofs.Standings.{same-number}
use Rattle.directory_index.specs.Standing.{Standing, IsFirstFrom as IsFirstNumber, StandsIn as NumberStandsIn}
use Rattle.eden_base.specs.declared.number.FileId.{FileId}
use Rattle.manifest.specs.Manifest.{most_files, line_of, AreLines, Line}
use Rattle.manifest.specs.Tree.{link_cmp, links_from, IsFirstFrom, StandsIn}
use Rattle.manifest.proofs.ManifestTree.{file_with, line_of_link, link_of_line, same_id}
use Rattle.manifest.proofs.MoreLines.{apart}

abbrev id_of : FileId → ℕ
id_of file = file.0

-- the id of the file that a link gives, under each name of each directory
abbrev standing : FinMap link_cmp FileId → Standing
standing links dir name = option_map id_of (get links (dir, name))

-- a file stands where its id does
file-stands : (links : FinMap link_cmp FileId) (dir : FileId) (n : ℕ) (file : FileId) → file.0 ≡ n → NumberStandsIn (standing links) dir.0 n → StandsIn links file dir
file-stands links dir n file e s = (s.0, in_ (get links (dir.0, s.0)) s.1) where
  in_ : (o : Option FileId) → option_map id_of o ≡ Some n → o ≡ Some file
  in_ None t = absurd (let no : ⊥ = cc in no)
  in_ (Some f) t = ap Some (same_id f file (same-number f.0 n t ∙ sym e))

-- so the first id is that of the first file
pub first-file : (links : FinMap link_cmp FileId) (dir : FileId) (least : ℕ) (id : Option ℕ) (found : Option FileId) →
    IsFirstNumber (standing links) dir.0 least id → MatchOption id (found ≡ None) (λ n. IsSomeAnd found (λ f. f.0 ≡ n)) → IsFirstFrom links dir least found
first-file links dir least None found first is = subst (IsFirstFrom links dir least) (sym is) (λ other s from. first other.0 (s.0, ap (option_map id_of) s.1) from)
first-file links dir least (Some n) None first is = absurd is
first-file links dir least (Some n) (Some file) first is = (
  file-stands links dir n file is first.0,
  (let from = first.1 in omega (arith, is, from)),
  λ other s from. let after = first.2 other.0 (s.0, ap (option_map id_of) s.1) from in omega (arith, is, after),
)

-- a file of a manifest's lines has one of few ids
pub first-few : (lines : List Line) → AreLines lines → (dir : FileId) (least : ℕ) (found : Option FileId) → IsFirstFrom (links_from 2 lines) dir least found → IfSome found (λ file. file.0 < most_files + 2)
first-few lines are dir least None first = tt
first-few lines are dir least (Some file) first =
    let r = line_of_link lines 2 dir.0 first.0.0 file first.0.1 in
    let within = slice_get_within lines r.place r.line r.here in
    let is = r.file_is in
    let few = are.few in
    omega (arith, is, within, few)

-- the link of a file's line gives the file
link-of-file : (lines : List Line) → AreLines lines → (file : FileId) (line : Line) → line_of lines file ≡ Some line → get (links_from 2 lines) (line.dir.0, line.name) ≡ Some file
link-of-file lines are file line here = elim (nat_lt file.0 2) as (λ b. nat_lt file.0 2 ≡ b → (if b then None else slice_get lines (file.0 - 2)) ≡ Some line → get (links_from 2 lines) (line.dir.0, line.name) ≡ Some file) [
  | true ↦ λ e g. cc
  | false ↦ λ e g.
      let at_least : 2 ≤ file.0 = grind (arith, nat_tests) in
      let id : 2 + (file.0 - 2) ≡ file.0 = omega arith in
      link_of_line lines 2 (file.0 - 2) line (apart lines are) g ∙ ap Some (same_id (file_with (2 + (file.0 - 2))) file id)
] refl here

-- so a file that has its line in the directory is the first one from its own id on
pub first-here : (lines : List Line) → AreLines lines → (dir file : FileId) (line : Line) → line_of lines file ≡ Some line → line.dir.0 ≡ dir.0 → IsFirstFrom (links_from 2 lines) dir file.0 (Some file)
first-here lines are dir file line here in_dir = (
  (line.name, ap (λ n. get (links_from 2 lines) (n, line.name)) (sym in_dir) ∙ link-of-file lines are file line here),
  omega arith,
  λ other s from. from,
)
