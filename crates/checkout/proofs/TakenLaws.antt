-- One more link of a manifest that goes.
use Rattle.std.proofs.Common.{◌≡◌, ℕ, ◌+◌, ◌<◌, ◌==◌, ◌||◌, ◌++◌, true, false, cond, if◌then◌else◌, List, [], ◌∷◌, length, Some, None, refl, sym, ap, ◌∙◌, inl, inr, arith, nat_le, nat_lt, ◌&&◌}
use Rattle.std.proofs.lemmas.Bool.Decides.{nat_tests}
use Rattle.std.proofs.lemmas.Option.{slice_get_within}
use Rattle.std.specs.FinMap.{get}
use Rattle.eden_base.specs.declared.number.FileId.{FileId}
use Rattle.manifest.specs.declared.link_change.LinkChange.{LinkChange}
use Rattle.checkout.specs.BadChanges.{gives_same}
use Rattle.checkout.specs.Changes.{place_of}
use Rattle.checkout.specs.UnlinkedFiles.{UnlinkedFiles, is_gone}
use Rattle.checkout.specs.Laying.{AreTaken, base_target}
use Rattle.manifest.specs.Manifest.{Manifest, IsManifest}
use Rattle.checkout.specs.Overlay.{is_line, lost_in}
use Rattle.manifest.specs.Tally.{Tally, count_of}
use Rattle.manifest.specs.Tree.{links_from}
use Rattle.checkout.proofs.UnlinkedLemmas.{is_gone-added}
use Rattle.checkout.proofs.LostCounts.{lost-le-kids, lost-one_more}
use Rattle.manifest.proofs.LineCounts.{kids-le-length}
use Rattle.manifest.proofs.ManifestIsTree.{tree_of-IsTree}
use Rattle.manifest.proofs.ManifestTree.{file_with, line_of_link, same_id}

-- a link of the manifest gives a file of a line
pub line_of_place : (m : Manifest) (place : ℕ × List ℕ) (file : FileId) → get (links_from 2 m.lines) place ≡ Some file → is_line m file ≡ true
line_of_place m place file h =
    let r = line_of_link m.lines 2 place.0 place.1 file h in
    let within = slice_get_within m.lines r.place r.line r.here in
    let low : nat_le 2 file.0 ≡ true = let e = r.file_is in grind (arith, nat_tests) in
    let high : nat_lt file.0 (length m.lines + 2) ≡ true = let e = r.file_is in grind (arith, nat_tests) in
    ap (λ b. b && nat_lt file.0 (length m.lines + 2)) low ∙ high

-- where a target is no file of the manifest, its place has another
pub not_there : (m : Manifest) (change : LinkChange) (file : FileId) → change.target ≡ Some file → is_line m file ≡ false → gives_same change.target (base_target m change) ≡ false
not_there m change file target none =
    elim (base_target m change) as (λ o. base_target m change ≡ o → gives_same change.target o ≡ false) [
      | None ↦ λ _. ap (λ t. gives_same t None) target
      | Some other ↦ λ here. ap (λ t. gives_same t (Some other)) target ∙ (elim (file.0 == other.0) as (λ b. (file.0 == other.0) ≡ b → b ≡ false) [
        | false ↦ λ _. refl
        | true ↦ λ e.
            let same : other.0 ≡ file.0 = grind (arith, nat_tests) in
            let line = line_of_place m (place_of change) other here in
            let its = ap (is_line m) (same_id other file same) in
            absurd (cc (line, its, none))
      ] refl)
    ] refl

-- two links of the manifest that give one file are one
pub one_place : (m : Manifest) → IsManifest m → (a b : ℕ × List ℕ) (f g : FileId) → get (links_from 2 m.lines) a ≡ Some f → get (links_from 2 m.lines) b ≡ Some g → f.0 ≡ g.0 → a ≡ b
one_place m is a b f g here there same =
    let w = (tree_of-IsTree m is).links_are_apart (file_with a.0) (file_with b.0) a.1 b.1 f here (there ∙ ap (λ x. Some x) (same_id g f (sym same))) in
    λ i. ((w.0 i).0, w.1 i)

module _ (m : Manifest) (is : IsManifest m) (gone : UnlinkedFiles) (lost : Tally) (so_far : AreTaken m gone lost) (change : LinkChange) (file : FileId) (here : base_target m change ≡ Some file) where
  -- both counts have room
  pub record HasRoom : Type 0 where
    pub file_within : file.0 < gone.room
    pub dir_within : change.dir.0 < lost.room
    pub fits : count_of lost change.dir.0 < 4294967295

  pub has_room : HasRoom
  has_room =
      let r = line_of_link m.lines 2 change.dir.0 change.name file here in
      let within = slice_get_within m.lines r.place r.line r.here in
      let dir_before = (is.lines.each r.place r.line r.here).dir_before in
      let counted = so_far.counted change.dir.0 in
      let kids = lost-le-kids (is_gone gone) change.dir.0 2 m.lines in
      let all = kids-le-length change.dir.0 m.lines in
      let few = is.lines.few in
      let id = r.file_is in
      let gone_room = so_far.gone_room in
      let lost_room = so_far.lost_room in
      record {
        file_within = omega (arith, id, within, gone_room);
        dir_within = elim dir_before [ inl one ↦ let d = r.dir_is in omega (arith, one, d, lost_room) | inr v ↦ let d = r.dir_is in omega (arith, v.2, v.3, d, within, lost_room) ];
        fits = omega (arith, counted, kids, all, few);
      }

  module _ (left : is_gone gone file.0 ≡ false) (gone' : UnlinkedFiles) (lost' : Tally) (files : gone'.files ≡ gone.files ++ file.0 ∷ []) (gone_room : gone'.room ≡ gone.room)
      (counts : (q : ℕ) → count_of lost' q ≡ (if q == change.dir.0 then count_of lost q + 1 else count_of lost q)) (lost_room : lost'.room ≡ lost.room) where
    one_more : (q : ℕ) → is_gone gone' q ≡ ((q == file.0) || is_gone gone q)
    one_more = is_gone-added gone gone' file.0 files

    line_still : (q : FileId) → ((q.0 == file.0) || is_gone gone q.0) ≡ true → is_line m q ≡ true
    line_still q h =
        elim (q.0 == file.0) as (λ b. (q.0 == file.0) ≡ b → (b || is_gone gone q.0) ≡ true → is_line m q ≡ true) [
          | true ↦ λ e k. let id : q.0 ≡ file.0 = grind (arith, nat_tests) in ap (is_line m) (same_id q file id) ∙ line_of_place m (place_of change) file here
          | false ↦ λ e k. so_far.are_lines q k
        ] refl h

    count : (d : ℕ) → (if d == change.dir.0 then count_of lost d + 1 else count_of lost d) ≡ lost_in (is_gone gone') d 2 m.lines
    count d =
        let r = line_of_link m.lines 2 change.dir.0 change.name file here in
        let more = lost-one_more (is_gone gone) (is_gone gone') file.0 one_more left d 2 r.place m.lines r.line r.here r.file_is in
        let at = ap (λ (x : ℕ). x == d) r.dir_is in
        let before = so_far.counted d in
        elim (d == change.dir.0) as (λ b. (d == change.dir.0) ≡ b → (if b then count_of lost d + 1 else count_of lost d) ≡ lost_in (is_gone gone') d 2 m.lines) [
          | true ↦ λ e. let yes : (change.dir.0 == d) ≡ true = grind (arith, nat_tests) in let one = ap {B = ℕ} (λ b. cond b 1 0) (at ∙ yes) in omega (arith, more, before, one)
          | false ↦ λ e. let no : (change.dir.0 == d) ≡ false = grind (arith, nat_tests) in let none = ap {B = ℕ} (λ b. cond b 1 0) (at ∙ no) in omega (arith, more, before, none)
        ] refl

    pub take-AreTaken : AreTaken m gone' lost'
    take-AreTaken = record {
      gone_room = gone_room ∙ so_far.gone_room;
      lost_room = lost_room ∙ so_far.lost_room;
      are_lines = λ q h. line_still q (sym (one_more q.0) ∙ h);
      counted = λ d. counts d ∙ count d;
    }
