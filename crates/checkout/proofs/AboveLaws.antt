-- The directory above a file: that of an added link, or of its line where that is not gone.
use Rattle.std.proofs.Common.{◌≡◌, ◌+◌, ◌-◌, ◌≤◌, ℕ, Bool, true, false, nat_lt, if◌then◌else◌, List, Option, Some, None, refl, sym, ap, ◌∙◌, arith}
use Rattle.std.proofs.lemmas.Bool.Decides.{nat_tests}
use Rattle.std.specs.FinMap.{FinMap, get}
use Rattle.std.specs.List.{slice_get}
use Rattle.std.specs.Option.{option_or}
use Rattle.eden_base.proofs.MemberLemmas.{some-IsSome}
use Rattle.eden_base.specs.declared.number.FileId.{FileId}
use Rattle.checkout.specs.Added.{gives}
use Rattle.checkout.specs.Around.{links_now, AreBeside, IsDirAbove}
use Rattle.checkout.specs.UnlinkedFiles.{UnlinkedFiles, is_gone}
use Rattle.manifest.specs.Manifest.{Line, Manifest, IsManifest, line_of}
use Rattle.checkout.specs.Overlay.{still}
use Rattle.manifest.specs.Tree.{link_cmp, links_from, StandsIn}
use Rattle.checkout.proofs.LinkLaws.{given_from_link}
use Rattle.manifest.proofs.ManifestTree.{line_of_link, link_of_line, same_id}
use Rattle.manifest.proofs.MoreLines.{apart}
use Rattle.checkout.proofs.UnionLaws.{get-links_over}

-- a line of these files is that of the file that it gives
pub line_of-link : (lines : List Line) (file : FileId) (place : ℕ) (line : Line) → slice_get lines place ≡ Some line → file.0 ≡ 2 + place → line_of lines file ≡ Some line
line_of-link lines file place line here id =
    let late : nat_lt file.0 2 ≡ false = grind (arith, nat_tests) in
    let at : file.0 - 2 ≡ place = omega arith in
    ap (λ b. if b then None else slice_get lines (file.0 - 2)) late ∙ ap (slice_get lines) at ∙ here

link-line_of : (lines : List Line) (file : FileId) (line : Line) → line_of lines file ≡ Some line → (slice_get lines (file.0 - 2) ≡ Some line) × (2 + (file.0 - 2) ≡ file.0)
link-line_of lines file line h =
    elim (nat_lt file.0 2) as (λ b. nat_lt file.0 2 ≡ b → (if b then None else slice_get lines (file.0 - 2)) ≡ Some line → (slice_get lines (file.0 - 2) ≡ Some line) × (2 + (file.0 - 2) ≡ file.0)) [
      | true ↦ λ e g. absurd (cc)
      | false ↦ λ e g. (g, let late : 2 ≤ file.0 = grind (arith, nat_tests) in omega arith)
    ] refl h

-- the manifest has a line's file at the line's place
pub base_of_line : (m : Manifest) → IsManifest m → (file : FileId) (line : Line) → line_of m.lines file ≡ Some line → get (links_from 2 m.lines) (line.dir.0, line.name) ≡ Some file
base_of_line m is file line h =
    let at = link-line_of m.lines file line h in
    link_of_line m.lines 2 (file.0 - 2) line (apart m.lines is.lines) at.0 ∙ ap (λ (f : FileId). Some f) (same_id (record { 0 = 2 + (file.0 - 2) }) file at.1)

module _ (m : Manifest) (added : FinMap link_cmp FileId) (gone : UnlinkedFiles) where
  abbrev base : FinMap link_cmp FileId
  base = links_from 2 m.lines

  -- an added link stays
  pub link_by_added : (file dir : FileId) (name : List ℕ) → get added (dir.0, name) ≡ Some file → get (links_now m added gone) (dir.0, name) ≡ Some file
  link_by_added file dir name there = get-links_over added (is_gone gone) base (dir.0, name) ∙ ap (λ o. option_or o (still (is_gone gone) (get base (dir.0, name)))) there

  pub above_by_added : (file dir : FileId) → StandsIn added file dir → StandsIn (links_now m added gone) file dir
  above_by_added file dir s = (s.0, link_by_added file dir s.0 s.1)

  pub still_there : (o : Option FileId) (file : FileId) → still (is_gone gone) o ≡ Some file → (o ≡ Some file) × (is_gone gone file.0 ≡ false)
  still_there None file h = absurd (cc)
  still_there (Some f) file h =
      elim (is_gone gone f.0) as (λ b. is_gone gone f.0 ≡ b → (if b then None else Some f) ≡ Some file → (Some f ≡ Some file) × (is_gone gone file.0 ≡ false)) [
        | true ↦ λ e g. absurd (cc)
        | false ↦ λ e g. let same : f ≡ file = cc in (g, ap (λ (x : FileId). is_gone gone x.0) (sym same) ∙ e)
      ] refl h

  -- a file that no added link gives stands in its line's directory
  pub from_base : (file dir : FileId) → gives added file ≡ false → (s : StandsIn (links_now m added gone) file dir) → (get base (dir.0, s.0) ≡ Some file) × (is_gone gone file.0 ≡ false)
  from_base file dir none s =
      elim (get added (dir.0, s.0)) as (λ o. get added (dir.0, s.0) ≡ o → option_or o (still (is_gone gone) (get base (dir.0, s.0))) ≡ Some file → (get base (dir.0, s.0) ≡ Some file) × (is_gone gone file.0 ≡ false)) [
        | Some f ↦ λ e g. let given = given_from_link added dir s.0 file (e ∙ g) in absurd (cc (given, none))
        | None ↦ λ e g. still_there (get base (dir.0, s.0)) file g
      ] refl (sym (get-links_over added (is_gone gone) base (dir.0, s.0)) ∙ s.1)

  pub none_above_gone : (file : FileId) → gives added file ≡ false → is_gone gone file.0 ≡ true → IsDirAbove (links_now m added gone) file None
  none_above_gone file none gone_too dir s = let r = from_base file dir none s in let stays = r.1 in cc (stays, gone_too)

  pub none_above_other : (file : FileId) → gives added file ≡ false → line_of m.lines file ≡ None → IsDirAbove (links_now m added gone) file None
  none_above_other file none no_line dir s =
      let r = from_base file dir none s in
      let at = line_of_link m.lines 2 dir.0 s.0 file r.0 in
      let line = line_of-link m.lines file at.place at.line at.here at.file_is in
      cc (line, no_line)

  pub link_by_line : IsManifest m → AreBeside added (is_gone gone) base → (file : FileId) (line : Line) → is_gone gone file.0 ≡ false → line_of m.lines file ≡ Some line → get (links_now m added gone) (line.dir.0, line.name) ≡ Some file
  link_by_line is beside file line stays h =
      let here : get base (line.dir.0, line.name) ≡ Some file = base_of_line m is file line h in
      let left : still (is_gone gone) (get base (line.dir.0, line.name)) ≡ Some file = ap (still (is_gone gone)) here ∙ ap (λ (b : Bool). if b then None else Some file) stays in
      let rest : option_or (get added (line.dir.0, line.name)) (still (is_gone gone) (get base (line.dir.0, line.name))) ≡ Some file =
      elim (get added (line.dir.0, line.name)) as (λ o. get added (line.dir.0, line.name) ≡ o → option_or o (still (is_gone gone) (get base (line.dir.0, line.name))) ≡ Some file) [
        | None ↦ λ e. left
        | Some f ↦ λ e. let none = beside line.dir.0 line.name (some-IsSome (get added (line.dir.0, line.name)) f e) in absurd (cc (none, left))
      ] refl in
      get-links_over added (is_gone gone) base (line.dir.0, line.name) ∙ rest

  pub above_by_line : IsManifest m → AreBeside added (is_gone gone) base → (file : FileId) (line : Line) → is_gone gone file.0 ≡ false → line_of m.lines file ≡ Some line → StandsIn (links_now m added gone) file line.dir
  above_by_line is beside file line stays h = (line.name, link_by_line is beside file line stays h)
