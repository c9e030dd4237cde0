-- The number of a name that has one is held once more; the count is taken back where the backing fails.
use Rattle.std.proofs.Common.{◌≡◌, false, Some, sym, ap, ◌∙◌, subst}
use Rattle.std.specs.Option.{option_map}
use Rattle.eden_base.specs.declared.errno.Errno.{Errno}
use Rattle.eden_base.specs.declared.errno.Errno.TheVariants.{EIO}
use Rattle.eden_base.specs.declared.number.FileId.{FileId}
use Rattle.checkout.specs.ChangedTree.{attr_of, is_unlinked}
use Rattle.fuse_wire.specs.declared.reply.Answer.TheVariants.{Entry, Error}
use Rattle.entry_table.proofs.FileLemmas.{IsFileOf-same}
use Rattle.entry_table.specs.Entries.{entry_at, number_of_kept, IsFileOf}
use Rattle.inode_map.specs.InodeMap.{forgotten}
use Rattle.fuse_ops.specs.Answers.{IsBacked}
use Rattle.fuse_ops.specs.Gifts.{served_over}
use Rattle.fuse_ops.specs.Loading.{Backs, FindsUnloaded, loaded_told}
use Rattle.fuse_ops.specs.Served.{ServedState}
use Rattle.fuse_ops.specs.Work.{IsAsKnown, LooksUp}
use Rattle.fuse_ops.proofs.Asking.{fault-known, failed-known, not-both}
use Rattle.fuse_ops.proofs.Entering.{entered-knows}
use Rattle.fuse_ops.proofs.EnteringAgain.{again-may, entered-other, entered-names, entered-linked, told-looks_up, failed-looks_up, loaded-known, asked-known, fault-looks_up}
use Rattle.fuse_ops.proofs.served.Served.enter_again.Goals as goal

pub returns-in-Err-clause-answer : goal.returns-in-Err-clause-answer
returns-in-Err-clause-answer g c =
    let old = served_over c.self.inside.tree c.self.inside.map in
    let new = served_over c.self.inside.tree c.give_again.new.self in
    let has = subst (λ (s : ServedState). Some c.args.number ≡ option_map number_of_kept (entry_at s.map.entries c.args.dir.0 c.args.name.now)) (sym c.self.view_is) c.requires.has in
    let is = fault-looks_up old c.args.dir c.args.name.now c.args.number c.in-Err.fault new c.self.invariant has c.in-Err.ensures.refused (ap (served_over c.self.inside.tree) c.in-Err.ensures.unchanged) in
    subst (λ (s : ServedState). LooksUp s c.args.dir c.args.name.now (Error c.errno_of.result) new) c.self.view_is
    (subst (λ (e : Errno). LooksUp old c.args.dir c.args.name.now (Error e) new) (sym c.errno_of.ensures) is)

pub invariant_of-self-2 : goal.invariant_of-self-2
invariant_of-self-2 g c =
    let may = again-may (served_over c.self.inside.tree c.self.inside.map) c.args.self.now c.args.dir c.args.name.now c.args.number c.self.view_is c.self.invariant c.requires.has c.in-Ok.ensures.accepted in
    entered-knows _ _ _ _ may.1 c.give_again.new.self c.in-Ok.number c.in-Ok.ensures.number c.in-Ok.ensures.given

pub loaded-requires : goal.loaded-requires
loaded-requires g c =
    let may = again-may (served_over c.self.inside.tree c.self.inside.map) c.args.self.now c.args.dir c.args.name.now c.args.number c.self.view_is c.self.invariant c.requires.has c.in-Ok.ensures.accepted in
    record { other = entered-other _ _ _ _ may.1 c.give_again.new.self c.in-Ok.number c.in-Ok.ensures.number c.in-Ok.ensures.given }

pub returns-in-Some-clause-answer : goal.returns-in-Some-clause-answer
returns-in-Some-clause-answer g c =
    let may = again-may (served_over c.self.inside.tree c.self.inside.map) c.args.self.now c.args.dir c.args.name.now c.args.number c.self.view_is c.self.invariant c.requires.has c.in-Ok.ensures.accepted in
    let names = entered-names _ _ _ _ may.1 c.give_again.new.self c.in-Ok.number c.in-Ok.ensures.number c.in-Ok.ensures.given in
    let linked = entered-linked _ _ _ _ may.1 c.give_again.new.self c.in-Ok.number c.in-Ok.ensures.number c.in-Ok.ensures.given in
    subst (λ (s : ServedState). LooksUp s c.args.dir c.args.name.now (Entry c.in-Ok.number c.in-Some.attr) c.loaded.new.self) c.self.view_is
    (told-looks_up _ _ _ _ may.1 c.give_again.new.self c.in-Ok.number c.in-Ok.ensures.number c.in-Ok.ensures.given c.in-Some.attr c.loaded.new.self (c.in-Some.ensures.attr may.0.file names linked) c.in-Some.ensures.loaded)

pub unreachable-requires : goal.unreachable-requires
unreachable-requires g c =
    let may = again-may (served_over c.self.inside.tree c.self.inside.map) c.args.self.now c.args.dir c.args.name.now c.args.number c.self.view_is c.self.invariant c.requires.has c.in-Ok.ensures.accepted in
    let names = entered-names _ _ _ _ may.1 c.give_again.new.self c.in-Ok.number c.in-Ok.ensures.number c.in-Ok.ensures.given in
    c.in_default-file_of.ensures.located may.0.file (subst (λ (s : ServedState). IsFileOf s.tree s.map.entries c.in-Ok.number.0 may.0.file) (sym c.in_default.ensures.unchanged) names)

pub load_asked-requires-clause-backs : goal.load_asked-requires-clause-backs
load_asked-requires-clause-backs g c =
    let holds = g.B.Backing.content c.args.backing.now in
    subst (λ (s : ServedState). Backs holds s.tree) (sym (c.file_of.ensures.unchanged ∙ c.in_default.ensures.unchanged))
    (subst (λ (s : ServedState). Backs holds s.tree) (sym c.self.view_is) c.requires.backs)

pub load_asked-requires-clause-other : goal.load_asked-requires-clause-other
load_asked-requires-clause-other g c =
    let may = again-may (served_over c.self.inside.tree c.self.inside.map) c.args.self.now c.args.dir c.args.name.now c.args.number c.self.view_is c.self.invariant c.requires.has c.in-Ok.ensures.accepted in
    entered-other _ _ _ _ may.1 c.give_again.new.self c.in-Ok.number c.in-Ok.ensures.number c.in-Ok.ensures.given

pub load_asked-requires-clause-linkage : goal.load_asked-requires-clause-linkage
load_asked-requires-clause-linkage g c =
    let may = again-may (served_over c.self.inside.tree c.self.inside.map) c.args.self.now c.args.dir c.args.name.now c.args.number c.self.view_is c.self.invariant c.requires.has c.in-Ok.ensures.accepted in
    let names = entered-names _ _ _ _ may.1 c.give_again.new.self c.in-Ok.number c.in-Ok.ensures.number c.in-Ok.ensures.given in
    let linked = entered-linked _ _ _ _ may.1 c.give_again.new.self c.in-Ok.number c.in-Ok.ensures.number c.in-Ok.ensures.given in
    let file = c.in-Some-file_of.file in
    let at = subst (λ (s : ServedState). IsFileOf s.tree s.map.entries c.in-Ok.number.0 file) c.in_default.ensures.unchanged c.in-Some-file_of.ensures.located in
    let same : file ≡ may.0.file = IsFileOf-same _ _ _ file may.0.file at names in
    subst (λ (s : ServedState). is_unlinked s.tree file ≡ false) (sym (c.file_of.ensures.unchanged ∙ c.in_default.ensures.unchanged))
    (subst (λ (f : FileId). is_unlinked c.self.inside.tree f ≡ false) (sym same) linked)

pub returns-in-Ok-load_asked-clause-answer : goal.returns-in-Ok-load_asked-clause-answer
returns-in-Ok-load_asked-clause-answer g c =
    let may = again-may (served_over c.self.inside.tree c.self.inside.map) c.args.self.now c.args.dir c.args.name.now c.args.number c.self.view_is c.self.invariant c.requires.has c.in-Ok.ensures.accepted in
    let names = entered-names _ _ _ _ may.1 c.give_again.new.self c.in-Ok.number c.in-Ok.ensures.number c.in-Ok.ensures.given in
    let told = c.in-Ok-load_asked in
    let file = c.in-Some-file_of.file in
    let at = subst (λ (s : ServedState). IsFileOf s.tree s.map.entries c.in-Ok.number.0 file) c.in_default.ensures.unchanged c.in-Some-file_of.ensures.located in
    let same : file ≡ may.0.file = IsFileOf-same _ _ _ file may.0.file at names in
    let before = c.file_of.ensures.unchanged ∙ c.in_default.ensures.unchanged in
    let is_attr = subst (λ (s : ServedState). attr_of s.tree file ≡ Some told.attr) before told.ensures.attr in
    subst (λ (s : ServedState). LooksUp s c.args.dir c.args.name.now (Entry c.in-Ok.number told.attr) c.load_asked.new.self) c.self.view_is
    (told-looks_up _ _ _ _ may.1 c.give_again.new.self c.in-Ok.number c.in-Ok.ensures.number c.in-Ok.ensures.given told.attr c.load_asked.new.self
    (subst (λ (f : FileId). attr_of c.self.inside.tree f ≡ Some told.attr) same is_attr)
    (told.ensures.loaded ∙ ap (λ (s : ServedState). record s { map = record s.map { loaded = loaded_told s.map c.in-Ok.number told.attr } }) before))

pub returns-in-Err-load_asked-clause-answer : goal.returns-in-Err-load_asked-clause-answer
returns-in-Err-load_asked-clause-answer g c =
    let may = again-may (served_over c.self.inside.tree c.self.inside.map) c.args.self.now c.args.dir c.args.name.now c.args.number c.self.view_is c.self.invariant c.requires.has c.in-Ok.ensures.accepted in
    let names = entered-names _ _ _ _ may.1 c.give_again.new.self c.in-Ok.number c.in-Ok.ensures.number c.in-Ok.ensures.given in
    let new = served_over c.self-2.inside.tree c.forget.new.self in
    let file = c.in-Some-file_of.file in
    let at = subst (λ (s : ServedState). IsFileOf s.tree s.map.entries c.in-Ok.number.0 file) c.in_default.ensures.unchanged c.in-Some-file_of.ensures.located in
    let same : file ≡ may.0.file = IsFileOf-same _ _ _ file may.0.file at names in
    let before = c.file_of.ensures.unchanged ∙ c.in_default.ensures.unchanged in
    let backed = subst (λ (s : ServedState). IsBacked s.tree file) before c.in-Err-load_asked.ensures.backed in
    let back = ap (served_over c.self-2.inside.tree) c.forget.ensures.forgotten
    ∙ ap (λ (s : ServedState). served_over s.tree (forgotten s.map c.in-Ok.number.0 1)) (c.self-2.view_is ∙ c.in-Err-load_asked.ensures.unchanged ∙ before)
    ∙ ap (served_over c.self.inside.tree) c.in-Ok.ensures.taken_back in
    subst (λ (s : ServedState). LooksUp s c.args.dir c.args.name.now (Error EIO) new) c.self.view_is
    (failed-looks_up _ _ _ _ may.1 c.give_again.new.self c.in-Ok.number c.in-Ok.ensures.number c.in-Ok.ensures.given new back
    c.in_default.ensures.unloaded
    (subst (λ (f : FileId). IsBacked c.self.inside.tree f) same backed))

pub returns-in-Err-clause-as_known : goal.returns-in-Err-clause-as_known
returns-in-Err-clause-as_known g c =
    let old = served_over c.self.inside.tree c.self.inside.map in
    let will = g.B.Backing.will_answer c.args.backing.now in
    subst (λ (s : ServedState). IsAsKnown (FindsUnloaded s c.args.dir c.args.name.now) (Error c.errno_of.result) will) c.self.view_is
    (subst (λ (e : Errno). IsAsKnown (FindsUnloaded old c.args.dir c.args.name.now) (Error e) will) (sym c.errno_of.ensures)
    (fault-known old c.args.dir c.args.name.now c.in-Err.fault will c.in-Err.ensures.refused))

pub returns-in-Some-clause-as_known : goal.returns-in-Some-clause-as_known
returns-in-Some-clause-as_known g c =
    let may = again-may (served_over c.self.inside.tree c.self.inside.map) c.args.self.now c.args.dir c.args.name.now c.args.number c.self.view_is c.self.invariant c.requires.has c.in-Ok.ensures.accepted in
    let has = subst (λ (s : ServedState). Some c.args.number ≡ option_map number_of_kept (entry_at s.map.entries c.args.dir.0 c.args.name.now)) (sym c.self.view_is) c.requires.has in
    let will = g.B.Backing.will_answer c.args.backing.now in
    subst (λ (s : ServedState). IsAsKnown (FindsUnloaded s c.args.dir c.args.name.now) (Entry c.in-Ok.number c.in-Some.attr) will) c.self.view_is
    (loaded-known _ _ _ _ may.1 c.give_again.new.self c.in-Ok.number c.in-Ok.ensures.number c.in-Ok.ensures.given c.args.number c.in-Some.attr will has c.in-Some.ensures.was_loaded)

pub returns-in-Ok-load_asked-clause-as_known : goal.returns-in-Ok-load_asked-clause-as_known
returns-in-Ok-load_asked-clause-as_known g c =
    let may = again-may (served_over c.self.inside.tree c.self.inside.map) c.args.self.now c.args.dir c.args.name.now c.args.number c.self.view_is c.self.invariant c.requires.has c.in-Ok.ensures.accepted in
    let names = entered-names _ _ _ _ may.1 c.give_again.new.self c.in-Ok.number c.in-Ok.ensures.number c.in-Ok.ensures.given in
    let file = c.in-Some-file_of.file in
    let at = subst (λ (s : ServedState). IsFileOf s.tree s.map.entries c.in-Ok.number.0 file) c.in_default.ensures.unchanged c.in-Some-file_of.ensures.located in
    let same : file ≡ may.0.file = IsFileOf-same _ _ _ file may.0.file at names in
    let before = c.file_of.ensures.unchanged ∙ c.in_default.ensures.unchanged in
    let will = g.B.Backing.will_answer c.args.backing.now in
    subst (λ (s : ServedState). IsAsKnown (FindsUnloaded s c.args.dir c.args.name.now) (Entry c.in-Ok.number c.in-Ok-load_asked.attr) will) c.self.view_is
    (asked-known _ _ _ _ may.1 c.give_again.new.self c.in-Ok.number c.in-Ok.ensures.number c.in-Ok.ensures.given file c.in-Ok-load_asked.attr will same
    (λ k b. not-both (c.in-Ok-load_asked.ensures.failing k (subst (λ (s : ServedState). IsBacked s.tree file) (sym before) b))))

pub returns-in-Err-load_asked-clause-as_known : goal.returns-in-Err-load_asked-clause-as_known
returns-in-Err-load_asked-clause-as_known g c = failed-known _ (g.B.Backing.will_answer c.args.backing.now) (λ k. not-both (c.in-Err-load_asked.ensures.answering k))
