-- A name that was added, or the manifest's where its file is not gone.
use Rattle.std.proofs.Common.{ℕ, if◌then◌else◌, List, Bool, Some, None, ap, sym, ◌∙◌}
use Rattle.std.specs.FinMap.{get}
use Rattle.std.specs.Option.{option_or}
use Rattle.checkout.specs.UnlinkedFiles.{is_gone}
use Rattle.checkout.specs.Overlay.{still}
use Rattle.manifest.specs.Tally.{count_of}
use Rattle.manifest.specs.Tree.{links_from}
use Rattle.checkout.proofs.OverlayLaws.{child-over}
use Rattle.checkout.proofs.tree.Tree.child.Goals as goal

pub returns-in-Some : goal.returns-in-Some
returns-in-Some c =
    let i = c.self.inside in
    let all = child-over i.manifest i.made i.added (is_gone i.gone) (count_of i.lost) i.next_file c.self.invariant.0.parts c.args.dir c.args.name.now in
    let here = sym c.get.ensures ∙ c.in-Some.is in
    rw (← c.self.view_is) (record { child = sym (all ∙ ap (λ o. option_or o (still (is_gone i.gone) (get (links_from 2 i.manifest.lines) (c.args.dir.0, c.args.name.now)))) here) })

pub returns-in_err-file : goal.returns-in_err-file
returns-in_err-file c =
    let i = c.self.inside in
    let all = child-over i.manifest i.made i.added (is_gone i.gone) (count_of i.lost) i.next_file c.self.invariant.0.parts c.args.dir c.args.name.now in
    let none = sym c.get.ensures ∙ c.in_default.is in
    let base = sym (ap (λ (n : List ℕ). get (links_from 2 i.manifest.lines) (c.args.dir.0, n)) c.bytes.ensures.bytes) ∙ sym c.child.ensures.child ∙ c.in_err-file.was in
    rw (← c.self.view_is) (record { child = c.from_residual.ensures ∙ sym (all ∙ ap (λ o. option_or o (still (is_gone i.gone) (get (links_from 2 i.manifest.lines) (c.args.dir.0, c.args.name.now)))) none ∙ ap (still (is_gone i.gone)) base) })

pub returns-then-has : goal.returns-then-has
returns-then-has c =
    let i = c.self.inside in
    let all = child-over i.manifest i.made i.added (is_gone i.gone) (count_of i.lost) i.next_file c.self.invariant.0.parts c.args.dir c.args.name.now in
    let none = sym c.get.ensures ∙ c.in_default.is in
    let base = sym (ap (λ (n : List ℕ). get (links_from 2 i.manifest.lines) (c.args.dir.0, n)) c.bytes.ensures.bytes) ∙ sym c.child.ensures.child ∙ c.in_ok-file.was in
    rw (← c.self.view_is) (record { child = sym (all ∙ ap (λ o. option_or o (still (is_gone i.gone) (get (links_from 2 i.manifest.lines) (c.args.dir.0, c.args.name.now)))) none ∙ ap (still (is_gone i.gone)) base ∙ ap (λ (b : Bool). if b then None else Some c.in_ok-file.file) (sym c.has.ensures ∙ c.if-has.true)) })

pub returns : goal.returns
returns c =
    let i = c.self.inside in
    let all = child-over i.manifest i.made i.added (is_gone i.gone) (count_of i.lost) i.next_file c.self.invariant.0.parts c.args.dir c.args.name.now in
    let none = sym c.get.ensures ∙ c.in_default.is in
    let base = sym (ap (λ (n : List ℕ). get (links_from 2 i.manifest.lines) (c.args.dir.0, n)) c.bytes.ensures.bytes) ∙ sym c.child.ensures.child ∙ c.in_ok-file.was in
    rw (← c.self.view_is) (record { child = sym (all ∙ ap (λ o. option_or o (still (is_gone i.gone) (get (links_from 2 i.manifest.lines) (c.args.dir.0, c.args.name.now)))) none ∙ ap (still (is_gone i.gone)) base ∙ ap (λ (b : Bool). if b then None else Some c.in_ok-file.file) (sym c.has.ensures ∙ c.if-has.false)) })
