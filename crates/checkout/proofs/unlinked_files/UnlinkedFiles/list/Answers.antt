-- Each file's line, one after another.
use Rattle.std.proofs.Common.{◌≡◌, ◌++◌, ◌+◌, ◌-◌, ◌<◌, [], ◌∷◌, None, drop, length, get_or, not, ap, sym, subst, ◌∙◌, refl}
use Rattle.std.proofs.Math.ListN.{drop_of_length-le}
use Rattle.std.proofs.lemmas.List.{append-nil}
use Rattle.std.specs.Option.{is_some}
use Rattle.std.specs.FinMap.{get}
use Rattle.checkout.specs.Listing.{gone_changes}
use Rattle.checkout.proofs.UnlinkedListing.{without_link, gone_first, have_later, listed_place, left_out}
use Rattle.checkout.proofs.unlinked_files.UnlinkedFiles.list.Goals.{then-is_none+in_ok-copy+in_ok-push, else-is_none}
use Rattle.checkout.proofs.unlinked_files.UnlinkedFiles.list.Goals as goal

pub loop-file-init : goal.loop-file-init
loop-file-init c = record { listed = refl; have_lines = c.requires.lines }

pub loop-file-preserved : goal.loop-file-preserved
loop-file-preserved c =
    let added = c.args.added.now in
    let lines = c.args.lines.now in
    let files = c.args.self.now.files in
    let i = c.loop-file.file-index in
    let line = c.index-lines-file.result in
    let items : c.deref-file-items.result.now ≡ files = c.deref-file-items.ensures.value ∙ ap (λ g. g.files) c.self.view_is in
    let within : i < length files = subst (λ fs. i < length fs) items c.loop-file-test.true in
    let is : line ≡ get_or lines (get_or files i 0 - 2) line = c.index-lines-file.is ∙ ap (λ fs. get_or lines (get_or fs i 0 - 2) line) items in
    let have = c.loop-file.invariant.have_lines in
    let so_far = ap (λ rest. c.loop-file.links.items ++ rest) (sym (gone_first added lines files i within have line is)) ∙ c.loop-file.invariant.listed in
    let view = c.line.view_is in
    let found = ap (λ l. is_some (get added (l.dir.0, l.name))) (sym view) ∙ ap is_some (sym c.get.ensures) ∙ c.is_none.ensures in
    record {
      listed = elim c.if-is_none.branch [
        | then-is_none+in_ok-copy+in_ok-push w ↦
            let place = ap (λ n. record { dir = c.line.inside.dir; name = n; target = None }) w.in_ok-copy.ensures.copy ∙ ap without_link view in
            let pushed = ap (λ v. v.items) w.links-is ∙ w.in_ok-push.ensures.items ∙ ap (λ x. c.loop-file.links.items ++ x ∷ []) place in
            listed_place added lines line _ _ _ _ (found ∙ ap not w.if-is_none.true) so_far pushed
        | else-is_none w ↦
            let same = ap (λ v. v.items) w.links-is in
            ap (λ xs. xs ++ gone_changes added lines (drop (i + 1) files)) same ∙ left_out added lines line _ _ _ (found ∙ ap not w.if-is_none.false) so_far
      ];
      have_lines = have_later added lines files i within have;
    }

pub returns-clause-listed : goal.returns-clause-listed
returns-clause-listed c =
    let items = c.deref-file-items.ensures.value ∙ ap (λ g. g.files) c.self.view_is in
    let past = c.loop-file-test.false in
    let none = ap (drop c.loop-file.file-index) (sym items) ∙ drop_of_length-le c.deref-file-items.result.now past in
    sym (append-nil c.loop-file.links.items) ∙ ap (λ fs. c.loop-file.links.items ++ gone_changes c.args.added.now c.args.lines.now fs) (sym none) ∙ c.loop-file.invariant.listed
