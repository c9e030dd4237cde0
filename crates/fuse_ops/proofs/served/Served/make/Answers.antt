-- A file is made and its number given, or nothing is changed.
use Rattle.std.proofs.Common.{◌≡◌, ℕ, List, Some, Err, refl, rules, sym, ap, ◌∙◌, subst, inr}
use Rattle.eden_base.specs.declared.errno.Errno.TheVariants.{ENOMEM}
use Rattle.checkout.proofs.AttrLaws.{attr_of-created}
use Rattle.eden_base.specs.Kinds.{kind_made}
use Rattle.eden_base.specs.declared.attr.Kind.{Kind}
use Rattle.eden_base.specs.declared.attr.MadeKind.{MadeKind}
use Rattle.eden_base.specs.declared.attr.Perm.{Perm}
use Rattle.eden_base.specs.declared.number.FileId.{FileId}
use Rattle.manifest.specs.Tree.{Tree, nlink_of_kind}
use Rattle.checkout.specs.ChangedTree.{attr_of, next_file, created}
use Rattle.entry_table.specs.Entries.{entry_at, entry_of, IsFileOf}
use Rattle.inode_map.specs.InodeMap.{MapState, given, number_given}
use Rattle.std.specs.Prelude.{IsSome}
use Rattle.fuse_ops.specs.Loading.{LoadsTold}
use Rattle.fuse_ops.specs.Gifts.{served_over}
use Rattle.fuse_ops.specs.Served.{ServedState, plain}
use Rattle.fuse_ops.specs.Work.{Makes}
use Rattle.fuse_ops.proofs.Making.{may-make, absent, next-refused, sound-plainly}
use Rattle.fuse_ops.proofs.ReadyMaking.{same-map, ready-clear, made-sound, made-remembers, made-may_load, made-loads, made-told, unmade, unmade-remembers, unmade-loaded}
use Rattle.fuse_ops.proofs.Remembering.{plainly-remembers, remembers-in}
use Rattle.fuse_ops.proofs.served.Served.make.Goals as goal

-- the attributes of the file that was made
made-attr : (old new : Tree) (dir : FileId) (name : List ℕ) (kind : MadeKind) (perm : Perm) (file : FileId) (now : Kind) (nlink : ℕ) → new ≡ created old dir name kind perm → file ≡ next_file old → now ≡ kind_made kind → nlink ≡ nlink_of_kind now →
    attr_of new file ≡ Some (record { kind = now; perm = perm; size = 0; nlink = nlink })
made-attr old new dir name kind perm file now nlink made is kinds links = rw (links, kinds, made, is) (attr_of-created old dir name kind perm)

pub returns-in-Err-clause-makes : goal.returns-in-Err-clause-makes
returns-in-Err-clause-makes c =
    let same = c.self.view_is ∙ c.free_place.ensures.unchanged in
    let may = may-make (served_over c.self.inside.tree c.self.inside.map) c.args.self.now c.args.dir c.args.name.now c.in_ok-above.above same c.self.invariant.0 c.self.invariant.1 c.in_ok-above.ensures.free in
    subst (λ (s : ServedState). Makes s c.args.dir c.args.name.now c.args.kind c.args.perm (Err c.in-Err.errno) (served_over c.self.inside.tree c.ready.new.map)) same
    (next-refused _ _ _ _ may c.args.kind c.args.perm c.in-Err.errno _ c.in-Err.ensures.refused (same-map c.self.inside.tree c.self.inside.map c.ready.new.map c.in-Err.ensures.unchanged))

pub invariant_of-self-in_default : goal.invariant_of-self-in_default
invariant_of-self-in_default c =
    let same = c.self.view_is ∙ c.free_place.ensures.unchanged in
    let may = may-make (served_over c.self.inside.tree c.self.inside.map) c.args.self.now c.args.dir c.args.name.now c.in_ok-above.above same c.self.invariant.0 c.self.invariant.1 c.in_ok-above.ensures.free in (
      c.create.ensures.is_tree,
      sound-plainly (served_over c.self.inside.tree c.self.inside.map) _
          (unmade _ _ _ _ may c.args.kind c.args.perm c.in-Ok.ensures.left c.ready.new.map c.create.new.self c.in-Ok.ensures.room c.in_default.ensures.unchanged).plainly c.self.invariant.1,
      unmade-remembers _ _ _ _ may c.args.kind c.args.perm c.in-Ok.ensures.left c.ready.new.map c.create.new.self c.in-Ok.ensures.room c.in_default.ensures.unchanged c.self.invariant.2,
      unmade-loaded _ _ _ _ may c.args.kind c.args.perm c.in-Ok.ensures.left c.ready.new.map c.create.new.self c.in-Ok.ensures.room c.in_default.ensures.unchanged c.self.invariant.3,
    )

pub returns-in_default-clause-makes : goal.returns-in_default-clause-makes
returns-in_default-clause-makes c =
    let same = c.self.view_is ∙ c.free_place.ensures.unchanged in
    let may = may-make (served_over c.self.inside.tree c.self.inside.map) c.args.self.now c.args.dir c.args.name.now c.in_ok-above.above same c.self.invariant.0 c.self.invariant.1 c.in_ok-above.ensures.free in
    subst (λ (s : ServedState). Makes s c.args.dir c.args.name.now c.args.kind c.args.perm (Err ENOMEM) (served_over c.create.new.self c.ready.new.map)) same
    (next-refused _ _ _ _ may c.args.kind c.args.perm ENOMEM _ (inr (refl, c.in-Ok.ensures.left)) (unmade _ _ _ _ may c.args.kind c.args.perm c.in-Ok.ensures.left c.ready.new.map c.create.new.self c.in-Ok.ensures.room c.in_default.ensures.unchanged))

-- a free name has no entry, and the room that was made adds none
pub give_ready-requires : goal.give_ready-requires
give_ready-requires c =
    let same = c.self.view_is ∙ c.free_place.ensures.unchanged in
    let may = may-make (served_over c.self.inside.tree c.self.inside.map) c.args.self.now c.args.dir c.args.name.now c.in_ok-above.above same c.self.invariant.0 c.self.invariant.1 c.in_ok-above.ensures.free in
    record {
      room = ap (λ (m : MapState). m.spare) c.in-Ok.ensures.room;
      free = ap (λ (m : MapState). entry_at m.entries c.args.dir.0 c.in-Ok.own) c.in-Ok.ensures.room ∙ ap (entry_at c.self.inside.map.entries c.args.dir.0) c.in-Ok.ensures.name ∙ absent _ _ _ _ may;
    }

pub unreachable-requires : goal.unreachable-requires
unreachable-requires c =
    let same = c.self.view_is ∙ c.free_place.ensures.unchanged in
    let may = may-make (served_over c.self.inside.tree c.self.inside.map) c.args.self.now c.args.dir c.args.name.now c.in_ok-above.above same c.self.invariant.0 c.self.invariant.1 c.in_ok-above.ensures.free in
    let clear = ready-clear _ _ _ _ may c.args.kind c.args.perm c.in-Ok.ensures.left c.ready.new.map c.in-Ok.ensures.room in
    let fault = c.in_default-give_ready.ensures.refused in
    let name = c.in-Ok.ensures.name in
    cc (clear, fault, name)

pub remember-requires : goal.remember-requires
remember-requires c =
    let same = c.self.view_is ∙ c.free_place.ensures.unchanged in
    let may = may-make (served_over c.self.inside.tree c.self.inside.map) c.args.self.now c.args.dir c.args.name.now c.in_ok-above.above same c.self.invariant.0 c.self.invariant.1 c.in_ok-above.ensures.free in
    let gave = c.in-Ok-give_ready.ensures.given ∙ ap (given c.ready.new.map c.args.dir) c.in-Ok.ensures.name in
    let number = c.in-Ok-give_ready.ensures.number ∙ ap (number_given c.ready.new.map c.args.dir.0) c.in-Ok.ensures.name in
    record { entry = (made-remembers _ _ _ _ may c.args.kind c.args.perm c.in-Ok.ensures.left c.give_ready.new.self c.ready.new.map c.create.new.self c.in-Ok-give_ready.number c.in-Ok.ensures.room gave c.in-Ok-create.ensures.created c.create.ensures.is_tree number c.self.invariant.2).1 }

pub load-requires : goal.load-requires
load-requires c =
    let same = c.self.view_is ∙ c.free_place.ensures.unchanged in
    let may = may-make (served_over c.self.inside.tree c.self.inside.map) c.args.self.now c.args.dir c.args.name.now c.in_ok-above.above same c.self.invariant.0 c.self.invariant.1 c.in_ok-above.ensures.free in
    let gave = c.in-Ok-give_ready.ensures.given ∙ ap (given c.ready.new.map c.args.dir) c.in-Ok.ensures.name in
    let number = c.in-Ok-give_ready.ensures.number ∙ ap (number_given c.ready.new.map c.args.dir.0) c.in-Ok.ensures.name in
    let right = made-remembers _ _ _ _ may c.args.kind c.args.perm c.in-Ok.ensures.left c.give_ready.new.self c.ready.new.map c.create.new.self c.in-Ok-give_ready.number c.in-Ok.ensures.room gave c.in-Ok-create.ensures.created c.create.ensures.is_tree number c.self.invariant.2 in
    record {
      entry = subst (λ (m : MapState). IsSome (entry_of m.entries c.in-Ok-give_ready.number.0)) (sym c.remember.ensures.remembered) right.1;
      unloaded = made-may_load _ _ _ _ may c.args.kind c.args.perm c.in-Ok.ensures.left c.give_ready.new.self c.ready.new.map c.remember.new.self c.create.new.self c.in-Ok-give_ready.number c.in-Ok-create.file c.in-Ok.ensures.room gave c.in-Ok-create.ensures.created c.create.ensures.is_tree number c.self.invariant.3 c.remember.ensures.remembered;
    }

pub invariant_of-self-2 : goal.invariant_of-self-2
invariant_of-self-2 c =
    let same = c.self.view_is ∙ c.free_place.ensures.unchanged in
    let may = may-make (served_over c.self.inside.tree c.self.inside.map) c.args.self.now c.args.dir c.args.name.now c.in_ok-above.above same c.self.invariant.0 c.self.invariant.1 c.in_ok-above.ensures.free in
    let gave = c.in-Ok-give_ready.ensures.given ∙ ap (given c.ready.new.map c.args.dir) c.in-Ok.ensures.name in
    let number = c.in-Ok-give_ready.ensures.number ∙ ap (number_given c.ready.new.map c.args.dir.0) c.in-Ok.ensures.name in
    let right = made-remembers _ _ _ _ may c.args.kind c.args.perm c.in-Ok.ensures.left c.give_ready.new.self c.ready.new.map c.create.new.self c.in-Ok-give_ready.number c.in-Ok.ensures.room gave c.in-Ok-create.ensures.created c.create.ensures.is_tree number c.self.invariant.2 in
    let sound = made-sound _ _ _ _ may c.args.kind c.args.perm c.in-Ok.ensures.left c.give_ready.new.self c.ready.new.map c.create.new.self c.in-Ok.ensures.room gave c.in-Ok-create.ensures.created c.create.ensures.is_tree in
    let names = subst (λ (f : FileId). IsFileOf c.create.new.self c.give_ready.new.self.entries c.in-Ok-give_ready.number.0 f) (sym c.in-Ok-create.ensures.file) right.0 in
    let loads = ap (λ (m : MapState). plain (served_over c.create.new.self m)) c.load.ensures.loaded in
    let is_attr = made-attr c.self.inside.tree c.create.new.self c.in_ok-above.above c.args.name.now c.args.kind c.args.perm c.in-Ok-create.file c.kind-kind.result c.nlink_of_kind-nlink.result c.in-Ok-create.ensures.created c.in-Ok-create.ensures.file c.kind-kind.ensures.kind c.nlink_of_kind-nlink.ensures.nlink in (
      c.create.ensures.is_tree,
      sound-plainly (served_over c.create.new.self c.give_ready.new.self) (served_over c.create.new.self c.load.new.self) (loads ∙ ap (λ (m : MapState). plain (served_over c.create.new.self m)) c.remember.ensures.remembered) sound,
      plainly-remembers (served_over c.create.new.self c.remember.new.self) (served_over c.create.new.self c.load.new.self) loads (ap (λ (m : MapState). m.remembered) c.load.ensures.loaded)
          (remembers-in c.create.new.self c.give_ready.new.self _ c.in-Ok-give_ready.number.0 c.in-Ok-create.file c.remember.ensures.remembered names right.2),
      made-loads _ _ _ _ may c.args.kind c.args.perm c.in-Ok.ensures.left c.give_ready.new.self c.ready.new.map c.remember.new.self c.create.new.self c.in-Ok-give_ready.number c.in-Ok-create.file c.in-Ok.ensures.room gave c.in-Ok-create.ensures.created c.create.ensures.is_tree number c.self.invariant.3 c.remember.ensures.remembered
          c.load.new.self _ names is_attr c.load.ensures.loaded,
    )

pub returns-clause-makes : goal.returns-clause-makes
returns-clause-makes c =
    let is_attr = made-attr c.self.inside.tree c.create.new.self c.in_ok-above.above c.args.name.now c.args.kind c.args.perm c.in-Ok-create.file c.kind-kind.result c.nlink_of_kind-nlink.result c.in-Ok-create.ensures.created c.in-Ok-create.ensures.file c.kind-kind.ensures.kind c.nlink_of_kind-nlink.ensures.nlink in
    search rules

pub returns-clause-loads : goal.returns-clause-loads
returns-clause-loads c =
    let same = c.self.view_is ∙ c.free_place.ensures.unchanged in
    let may = may-make (served_over c.self.inside.tree c.self.inside.map) c.args.self.now c.args.dir c.args.name.now c.in_ok-above.above same c.self.invariant.0 c.self.invariant.1 c.in_ok-above.ensures.free in
    let gave = c.in-Ok-give_ready.ensures.given ∙ ap (given c.ready.new.map c.args.dir) c.in-Ok.ensures.name in
    let number = c.in-Ok-give_ready.ensures.number ∙ ap (number_given c.ready.new.map c.args.dir.0) c.in-Ok.ensures.name in
    let right = made-remembers _ _ _ _ may c.args.kind c.args.perm c.in-Ok.ensures.left c.give_ready.new.self c.ready.new.map c.create.new.self c.in-Ok-give_ready.number c.in-Ok.ensures.room gave c.in-Ok-create.ensures.created c.create.ensures.is_tree number c.self.invariant.2 in
    let names = subst (λ (f : FileId). IsFileOf c.create.new.self c.give_ready.new.self.entries c.in-Ok-give_ready.number.0 f) (sym c.in-Ok-create.ensures.file) right.0 in
    let is_attr = made-attr c.self.inside.tree c.create.new.self c.in_ok-above.above c.args.name.now c.args.kind c.args.perm c.in-Ok-create.file c.kind-kind.result c.nlink_of_kind-nlink.result c.in-Ok-create.ensures.created c.in-Ok-create.ensures.file c.kind-kind.ensures.kind c.nlink_of_kind-nlink.ensures.nlink in
    subst (λ (s : ServedState). LoadsTold s.map c.in-Ok-give_ready.number (record { kind = c.kind-kind.result; perm = c.args.perm; size = 0; nlink = c.nlink_of_kind-nlink.result }) c.load.new.self) same
    (made-told _ _ _ _ may c.args.kind c.args.perm c.in-Ok.ensures.left c.give_ready.new.self c.ready.new.map c.remember.new.self c.create.new.self c.in-Ok-give_ready.number c.in-Ok-create.file c.in-Ok.ensures.room gave c.in-Ok-create.ensures.created c.create.ensures.is_tree number c.self.invariant.3 c.remember.ensures.remembered
    c.load.new.self _ names is_attr c.load.ensures.loaded)
