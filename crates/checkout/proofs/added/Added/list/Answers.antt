-- The links of the places, one after another.
use Rattle.std.proofs.Common.{◌≡◌, ◌++◌, map, [], ◌∷◌, Some, refl, ap, sym, subst, ◌∙◌}
use Rattle.std.proofs.lemmas.List.{append-nil}
use Rattle.std.proofs.lemmas.List.Sorted.{IsPermutation-append_right, IsPermutation-map}
use Rattle.std.specs.FinMap.{entries}
use Rattle.std.specs.List.Sorted.{IsPermutation}
use Rattle.manifest.specs.Links.{added_change}
use Rattle.manifest.proofs.ListLemmas.{listed_one_more}
use Rattle.checkout.specs.Added.{link_of, links_of}
use Rattle.checkout.proofs.AddedListing.{all-links}
use Rattle.checkout.proofs.added.Added.list.Goals as goal

pub loop-file-init : goal.loop-file-init
loop-file-init c = refl

pub loop-file-preserved : goal.loop-file-preserved
loop-file-preserved c =
    let so_far = ap (λ it. c.loop-file.links.items ++ map added_change (map link_of it)) (sym c.in-Some.ensures.steps) ∙ c.loop-file.invariant in
    listed_one_more _ _ _ _ _ so_far (c.in_ok-push.ensures.items ∙ ap (λ n. c.loop-file.links.items ++ record { dir = c.in-Some.place.now.dir; name = n; target = Some (record { 0 = c.in-Some.file.now }) } ∷ []) c.in_ok-name.ensures.copy)

pub returns : goal.returns
returns c =
    let es = c.self.inside.places.files.entries in
    let so_far = c.loop-file.links.items in
    let gives : c.into_iter-file-iterator.result ≡ es = c.into_iter-file-iterator.ensures.into_iter_gives.0 in
    let listed = sym (append-nil so_far) ∙ ap (λ it. so_far ++ map added_change (map link_of it)) (sym c.in-None.ensures.steps.0) ∙ c.loop-file.invariant ∙ ap (λ it. c.args.links.now.items ++ map added_change (map link_of it)) gives in
    let all = IsPermutation-append_right c.args.links.now.items _ _ (IsPermutation-map added_change (entries (links_of es)) (map link_of es) (all-links es c.self.invariant.unique c.self.invariant.are_places)) in
    subst (λ m. IsPermutation (c.args.links.now.items ++ map added_change (entries m)) so_far) c.self.view_is (subst (IsPermutation (c.args.links.now.items ++ map added_change (entries (links_of es)))) (sym listed) all)
