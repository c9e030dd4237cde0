-- The last two rounds, by the parts of an overlay.
use Rattle.std.proofs.Common.{◌≡◌, ◌+◌, ◌==◌, ℕ, nat_lt, List, Option, Some, None, sym, ap, subst, ◌∙◌}
use Rattle.std.proofs.lemmas.Bool.{or_parts}
use Rattle.std.specs.FinMap.{FinMap, empty, get}
use Rattle.std.specs.List.{AllByRecursion, list_any}
use Rattle.std.specs.Option.{option_map}
use Rattle.eden_base.specs.declared.number.FileId.{FileId}
use Rattle.checkout.specs.declared.changes.Changes.{Changes}
use Rattle.checkout.specs.Around.{AreApart, AreBeside, CountsLinks, GivesTarget, IsFirstAbove, links_now}
use Rattle.checkout.specs.BadChanges.{changed_links, file_in, first_link, IsBadAround}
use Rattle.checkout.specs.Changed.{changed, links_with}
use Rattle.checkout.specs.Changes.{place_of}
use Rattle.checkout.specs.UnlinkedFiles.{UnlinkedFiles, is_gone}
use Rattle.checkout.specs.Laying.{with_made}
use Rattle.manifest.specs.Manifest.{Manifest, kids_in}
use Rattle.checkout.specs.Overlay.{AreParts, tree_over}
use Rattle.checkout.specs.Rounds.{AreLaid, cuts, first_of, has_added}
use Rattle.manifest.specs.Tally.{Tally, count_of}
use Rattle.manifest.specs.Tree.{link_cmp, links_from}
use Rattle.checkout.proofs.AboveItself.{above-IsBadAround, none_above-IsBadAround}
use Rattle.checkout.proofs.ChangeLists.{all_weaker}
use Rattle.checkout.proofs.ChangedAround.{changed_apart}
use Rattle.checkout.proofs.ChangedMaps.{changed_links-changed, each_stands}
use Rattle.checkout.proofs.FirstBadLaws.{good_itself, places_rise}
use Rattle.checkout.proofs.LaidLinks.{links_over-changed}
use Rattle.checkout.proofs.LaidTree.{laid-AreParts, laid-changed, stand_apart}
use Rattle.manifest.proofs.ManifestTree.{same_id}
use Rattle.checkout.proofs.OverlayLaws.{none_in}
use Rattle.checkout.proofs.RoundFour.{cut-found}

module _ (m : Manifest) (c : Changes) (added : FinMap link_cmp FileId) (gone : UnlinkedFiles) (lost : Tally) (laid : AreLaid m c added gone lost) where
  abbrev links : FinMap link_cmp FileId
  links = links_now m added gone

  abbrev all : FinMap link_cmp FileId
  all = links_with (links_from 2 m.lines) c.links

  -- the links are those with all changes made
  links-all : links ≡ all
  links-all =
      ap (λ x. links_now m x gone) laid.came
      ∙ links_over-changed m laid.is_manifest c.links (stand_apart m c laid.is_manifest laid.itself) (is_gone gone) (λ q. ap (list_any (λ f. q == f)) laid.went)

  pub parts : AreParts m (with_made empty c.made) added (is_gone gone) (count_of lost)
  parts = subst (λ x. AreParts m (with_made empty c.made) x (is_gone gone) (count_of lost)) (sym laid.came) (laid-AreParts m c laid.is_manifest laid.itself gone lost laid.went laid.so_far)

  pub is_changed : tree_over m (with_made empty c.made) added (is_gone gone) c.next_file.0 ≡ changed m c
  is_changed = ap (λ x. tree_over m (with_made empty c.made) x (is_gone gone) c.next_file.0) laid.came ∙ laid-changed m c laid.is_manifest laid.itself gone lost laid.went laid.so_far

  pub are_beside : AreBeside added (is_gone gone) (links_from 2 m.lines)
  are_beside = parts.added_are_apart

  pub are_counted : CountsLinks m added gone (count_of lost)
  are_counted dir name none =
      let w = or_parts (has_added added dir) (nat_lt (count_of lost dir.0) (kids_in dir.0 m.lines)) none in
      none_in m (with_made empty c.made) added (is_gone gone) (count_of lost) c.next_file.0 parts dir w.0 w.1 name

  pub are_apart : AreApart links
  are_apart = record {
    apart = λ dir other name other_name file here there.
        let once = (changed_apart m c laid.is_manifest laid.itself laid.by_other).apart (dir.0, name) (other.0, other_name) file (ap (λ x. get x (dir.0, name)) (sym links-all) ∙ here) (ap (λ x. get x (other.0, other_name)) (sym links-all) ∙ there) in
        (same_id dir other (ap (λ (k : ℕ × List ℕ). k.0) once), ap (λ (k : ℕ × List ℕ). k.1) once);
  }

  pub all_give : AllByRecursion (GivesTarget links) c.links
  all_give =
      all_weaker (λ x. x.target ≡ get all (place_of x)) (GivesTarget links) (λ x e. ap (λ y. get y (place_of x)) links-all ∙ sym e) c.links
      (each_stands (links_from 2 m.lines) c.links (places_rise m c.made (first_link c) c.links (good_itself m c laid.itself).links))

  same_links : (place : ℕ × List ℕ) → file_in (changed_links m c) place ≡ get links place
  same_links place = changed_links-changed m c (good_itself m c laid.itself).links place ∙ ap (λ x. get x place) (sym links-all)

  -- a link above itself is the first bad change
  pub around_above : (place : ℕ) → IsFirstAbove links c.links (Some place) → IsBadAround m c (Some (first_link c + place))
  around_above place first = above-IsBadAround m c links same_links place first

  -- where none is, what the fourth round finds
  pub around_cut : (found : Option ℕ) → IsFirstAbove links c.links None → found ≡ first_of (cuts m added (is_gone gone) (count_of lost)) 0 c.links → IsBadAround m c (option_map (λ i. first_link c + i) found)
  around_cut found none e =
      none_above-IsBadAround m c links same_links (option_map (λ i. first_link c + i) found) none
      (cut-found m c laid.is_manifest laid.itself (with_made empty c.made) added (is_gone gone) (count_of lost) parts is_changed found e)
