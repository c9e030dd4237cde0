-- The next number is given, and its file's attributes are the first that are loaded of it.
use Rattle.std.proofs.Common.{◌≡◌, false, Option, ap, refl, sym, ◌∙◌, subst, arith}
use Rattle.std.proofs.lemmas.Bool.Decides.{nat_tests}
use Rattle.std.specs.Prelude.{◌≤◌}
use Rattle.eden_base.specs.Limits.{end_of_numbers}
use Rattle.eden_base.specs.declared.errno.Errno.TheVariants.{EIO}
use Rattle.eden_base.specs.declared.number.FileId.{FileId}
use Rattle.checkout.specs.ChangedTree.{is_unlinked}
use Rattle.entry_table.specs.Entries.{entry_at}
use Rattle.fuse_ops.specs.Answers.{IsBacked, found_in}
use Rattle.fuse_ops.specs.Gifts.{served_over}
use Rattle.fuse_ops.specs.Loading.{LoadsTold}
use Rattle.fuse_ops.specs.Served.{ServedState}
use Rattle.fuse_ops.specs.Work.{errno_of}
use Rattle.fuse_ops.proofs.Asking.{failed-known, fault-not_eio, full-known, not-both, told-known}
use Rattle.fuse_ops.proofs.Entering.{may-enter, entered-entry, may-load, loaded-knows, loaded-told}
use Rattle.fuse_ops.proofs.Finding.{found-linked}
use Rattle.fuse_ops.proofs.Unloaded.{new-refused}
use Rattle.fuse_ops.proofs.served.Served.enter_next.Goals as goal

pub ask-requires-clause-linkage : goal.ask-requires-clause-linkage
ask-requires-clause-linkage g c =
    let found = c.args.found in
    let told = c.requires.found.found in
    subst (λ (s : ServedState). is_unlinked s.tree found.file ≡ false) (sym c.self.view_is)
    (found-linked c.args.self.now.tree found.dir found.file c.args.name.now (ap (λ (o : Option FileId). found_in c.args.self.now.tree o c.args.name.now) (sym told.0) ∙ told.1))

pub remember-requires : goal.remember-requires
remember-requires g c =
    let may = may-enter (served_over c.self.inside.tree c.self.inside.map) c.args.self.now c.args.dir c.args.name.now c.args.found c.self.view_is c.self.invariant c.requires.found c.in-Ok-give_next.ensures.accepted in
    record { entry = entered-entry _ _ _ _ may c.give_next.new.self c.in-Ok-give_next.number c.in-Ok-give_next.ensures.number c.in-Ok-give_next.ensures.given }

pub load-requires : goal.load-requires
load-requires g c =
    let may = may-enter (served_over c.self.inside.tree c.self.inside.map) c.args.self.now c.args.dir c.args.name.now c.args.found c.self.view_is c.self.invariant c.requires.found c.in-Ok-give_next.ensures.accepted in
    let free = ap (λ (s : ServedState). entry_at s.map.entries c.args.dir.0 c.args.name.now) c.self.view_is ∙ c.requires.free in
    let both = may-load _ _ _ _ may c.give_next.new.self c.in-Ok-give_next.number c.in-Ok-give_next.ensures.number c.in-Ok-give_next.ensures.given c.remember.new.self c.remember.ensures.remembered free in
    record { entry = both.0; unloaded = both.1 }

pub invariant_of-self : goal.invariant_of-self
invariant_of-self g c =
    let may = may-enter (served_over c.self.inside.tree c.self.inside.map) c.args.self.now c.args.dir c.args.name.now c.args.found c.self.view_is c.self.invariant c.requires.found c.in-Ok-give_next.ensures.accepted in
    let free = ap (λ (s : ServedState). entry_at s.map.entries c.args.dir.0 c.args.name.now) c.self.view_is ∙ c.requires.free in
    loaded-knows _ _ _ _ may c.give_next.new.self c.in-Ok-give_next.number c.in-Ok-give_next.ensures.number c.in-Ok-give_next.ensures.given c.remember.new.self c.remember.ensures.remembered free c.in-Ok.attr c.load.new.self c.in-Ok.ensures.attr c.load.ensures.loaded

pub returns-in-Ok-give_next-clause-loads : goal.returns-in-Ok-give_next-clause-loads
returns-in-Ok-give_next-clause-loads g c =
    let may = may-enter (served_over c.self.inside.tree c.self.inside.map) c.args.self.now c.args.dir c.args.name.now c.args.found c.self.view_is c.self.invariant c.requires.found c.in-Ok-give_next.ensures.accepted in
    let free = ap (λ (s : ServedState). entry_at s.map.entries c.args.dir.0 c.args.name.now) c.self.view_is ∙ c.requires.free in
    subst (λ (s : ServedState). LoadsTold s.map c.in-Ok-give_next.number c.in-Ok.attr c.load.new.self) c.self.view_is
    (loaded-told _ _ _ _ may c.give_next.new.self c.in-Ok-give_next.number c.in-Ok-give_next.ensures.number c.in-Ok-give_next.ensures.given c.remember.new.self c.remember.ensures.remembered free c.in-Ok.attr c.load.new.self c.in-Ok.ensures.attr c.load.ensures.loaded)

pub returns-then-next-ge-END_OF_NUMBERS-clause-as_known : goal.returns-then-next-ge-END_OF_NUMBERS-clause-as_known
returns-then-next-ge-END_OF_NUMBERS-clause-as_known g c = full-known c.args.self.now c.args.dir c.args.name.now (g.B.Backing.will_answer c.args.backing.now) c.requires.free
    (subst (λ (s : ServedState). end_of_numbers ≤ s.map.next) c.self.view_is (grind (arith, nat_tests)))

pub returns-in_default-clause-entry : goal.returns-in_default-clause-entry
returns-in_default-clause-entry g c =
    new-refused (served_over c.self.inside.tree c.self.inside.map) c.args.self.now c.args.dir c.args.name.now c.args.found _ c.self.view_is c.self.invariant.0 c.self.invariant.1 c.requires.found c.requires.free (grind (arith, nat_tests))
    c.in_default.ensures.backed refl

pub returns-in_default-clause-as_known : goal.returns-in_default-clause-as_known
returns-in_default-clause-as_known g c = failed-known _ (g.B.Backing.will_answer c.args.backing.now) (λ k. not-both (c.in_default.ensures.answering k))

pub returns-in-Ok-give_next-clause-as_known : goal.returns-in-Ok-give_next-clause-as_known
returns-in-Ok-give_next-clause-as_known g c =
    told-known c.args.self.now c.args.dir c.args.name.now c.args.found _ (g.B.Backing.will_answer c.args.backing.now) c.requires.found
    (λ k b. not-both (c.in-Ok.ensures.failing k (subst (λ (s : ServedState). IsBacked s.tree c.args.found.file) (sym c.self.view_is) b))) (λ e. let none : ⊥ = cc in none)

pub returns-in-Err-clause-as_known : goal.returns-in-Err-clause-as_known
returns-in-Err-clause-as_known g c =
    told-known c.args.self.now c.args.dir c.args.name.now c.args.found _ (g.B.Backing.will_answer c.args.backing.now) c.requires.found
    (λ k b. not-both (c.in-Ok.ensures.failing k (subst (λ (s : ServedState). IsBacked s.tree c.args.found.file) (sym c.self.view_is) b))) (λ e. fault-not_eio c.in-Err.fault (let s : errno_of c.in-Err.fault ≡ EIO = cc in s))
