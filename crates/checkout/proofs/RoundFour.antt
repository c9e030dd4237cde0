-- The fourth round, by the parts of an overlay.
use Rattle.std.proofs.Common.{◌≡◌, ℕ, ◌==◌, ◌+◌, ◌&&◌, ◌||◌, Bool, not, List, [], ◌∷◌, Option, None, sym, ap, ◌∙◌}
use Rattle.std.specs.FinMap.{FinMap}
use Rattle.std.specs.List.{AllByRecursion}
use Rattle.std.specs.Option.{option_map}
use Rattle.std.specs.Ordering.{nat_cmp}
use Rattle.eden_base.specs.declared.number.FileId.{FileId}
use Rattle.checkout.specs.declared.changes.Changes.{Changes}
use Rattle.manifest.specs.declared.link_change.LinkChange.{LinkChange}
use Rattle.checkout.specs.declared.made.MadeFile.{MadeFile}
use Rattle.checkout.specs.BadChanges.{bad_by_cut, bad_itself, changed_links, file_does, first_link, is_cut_off, manifest_target}
use Rattle.checkout.specs.Changed.{changed}
use Rattle.checkout.specs.Changes.{place_of}
use Rattle.checkout.specs.Laying.{base_target}
use Rattle.manifest.specs.Manifest.{Manifest, IsManifest}
use Rattle.checkout.specs.Overlay.{tree_over, AreParts}
use Rattle.checkout.specs.Rounds.{cuts, first_of, is_cut}
use Rattle.manifest.specs.Tree.{Tree, link_cmp}
use Rattle.checkout.specs.ChangedTree.{has_links, is_linked}
use Rattle.checkout.proofs.AmongLinks.{first_of-same, first_where-is, given-linked, names-links}
use Rattle.checkout.proofs.ChangedLinks.{lines_links-get}
use Rattle.checkout.proofs.OverlayLaws.{has_links-over, is_linked-over}

module _ (m : Manifest) (c : Changes) (is : IsManifest m) (itself : bad_itself m c ≡ None) (made : FinMap nat_cmp MadeFile) (added : FinMap link_cmp FileId) (gone : ℕ → Bool) (lost : ℕ → ℕ)
    (parts : AreParts m made added gone lost) (laid : tree_over m made added gone c.next_file.0 ≡ changed m c) where
  cut-is : (dir : FileId) → is_cut m added gone lost dir ≡ is_cut_off (changed_links m c) dir
  cut-is dir =
      let given = sym (is_linked-over m made added gone lost c.next_file.0 parts dir) ∙ ap (λ (t : Tree). is_linked t dir) laid ∙ sym (given-linked m c is itself dir) in
      let names = sym (has_links-over m made added gone lost c.next_file.0 parts dir) ∙ ap (λ (t : Tree). has_links t dir) laid ∙ sym (names-links m c is itself dir) in
      λ i. not (dir.0 == 1) && not (given i) && names i

  cuts-is : (change : LinkChange) → cuts m added gone lost change ≡ (is_cut_off (changed_links m c) change.dir || file_does (is_cut_off (changed_links m c)) (manifest_target m change))
  cuts-is change =
      let cut : is_cut m added gone lost ≡ is_cut_off (changed_links m c) = λ i dir. cut-is dir i in
      let there : base_target m change ≡ manifest_target m change = sym (lines_links-get 2 m.lines (place_of change)) in
      λ i. cut i change.dir || file_does (cut i) (there i)

  pub cut-found : (found : Option ℕ) → found ≡ first_of (cuts m added gone lost) 0 c.links → option_map (λ i. first_link c + i) found ≡ bad_by_cut m c
  cut-found found e =
      let cut = is_cut_off (changed_links m c) in
      let test : LinkChange → Bool = λ change. cut change.dir || file_does cut (manifest_target m change) in
      ap (option_map (λ i. first_link c + i)) (e ∙ first_of-same (cuts m added gone lost) test 0 c.links (all c.links)) ∙ sym (first_where-is test c)
    where
      all : (xs : List LinkChange) → AllByRecursion (λ change. cuts m added gone lost change ≡ (is_cut_off (changed_links m c) change.dir || file_does (is_cut_off (changed_links m c)) (manifest_target m change))) xs
      all [] = tt
      all (x ∷ xs) = (cuts-is x, all xs)
