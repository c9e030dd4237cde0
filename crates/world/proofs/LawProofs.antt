-- A legal step on what is under way is a move of the world.
use Rattle.std.proofs.Common.{◌≡◌, ◌+◌, ◌≤◌, Bool, Option, Some, is_some, refl, sym, ap, ◌∙◌, subst, arith}
use Rattle.std.specs.Prelude.{sum_by, if◌then◌else◌}
use Rattle.eden_base.specs.First.{without_where}
use Rattle.eden_base.proofs.NumberTests.{eq-true}
use Rattle.fuse_wire.specs.declared.request.Ask.{Ask}
use Rattle.inode_map.specs.InodeMap.{forgotten}
use Rattle.fuse_ops.specs.Served.{ServedState}
use Rattle.fuse_ops.proofs.SameManifest.{answered-manifest}
use Rattle.world.specs.Laws.{ServesWorld, AnswerIsMove, ItemIsMove}
use Rattle.world.specs.World.{World, is_item, file_named, gives, taken_back, owed, MayWork, worked}
use Rattle.world.specs.Agreement.{Knows}
use Rattle.world.proofs.Answering.{answers-worked}
use Rattle.world.proofs.Bags.{sum-without}
use Rattle.world.proofs.Forgetting.{Forgotten, forgets-well, less_owed}
use Rattle.world.proofs.Knowing.{knows-along}
use Rattle.world.proofs.Worked.{Worked}
use Rattle.world.proofs.Working.{made-owed, applied-owed}

pub answer-is-move : AnswerIsMove
answer-is-move w served later ask answer serves first (is, legal) = (
  subst (λ (o : Option Ask). MayWork w o answer) (sym first) done.may,
  subst (λ (o : Option Ask). ServesWorld (worked w answer o) later) (sym first) (record {
    is_tree = done.is_tree;
    of_manifest = answered-manifest w.tree (file_named w.names) ask.what answer ∙ serves.of_manifest;
    knows = knows-along w'.tree w'.names (λ n. owed w n + (if gives n answer then 1 else 0)) (owed w') later (λ n. made-owed w ask answer n) done.knows;
  }),
) where
  done : Worked w ask.what answer later
  done = answers-worked w served later ask.what answer serves.is_tree serves.of_manifest serves.knows legal

  w' : World
  w' = worked w answer (Some ask)

pub item-is-move : ItemIsMove
item-is-move w served later item serves first root some (forget, same) = (
  ap is_some first,
  record {
    is_tree = serves.is_tree;
    of_manifest = serves.of_manifest;
    knows = subst (λ (s : ServedState). Knows w.tree w.names (owed w') s) (sym (same ∙ λ i. record { map = forgotten served.map item.node.0 item.k; tree = (serves.knows).tree_is i }))
        (knows-along w.tree w.names (less_owed (owed w) item.node.0 item.k) (owed w') _ (λ j. applied-owed w item j first) well.knows);
  },
) where
  w' : World
  w' = record w { items = without_where (is_item item) w.items }

  few : item.k ≤ owed w item.node.0
  few =
      let s : sum_by (taken_back item.node.0) w.items ≡ taken_back item.node.0 item + sum_by (taken_back item.node.0) (without_where (is_item item) w.items) = sum-without (taken_back item.node.0) (is_item item) w.items item first in
      let k : taken_back item.node.0 item ≡ item.k = ap (λ (b : Bool). if b then item.k else 0) (eq-true item.node.0 item.node.0 refl) in
      omega arith

  well : Forgotten w.tree w.names (owed w) served.map item.node.0 item.k
  well = forgets-well w.tree w.names (owed w) served.map item.node.0 item.k serves.is_tree
      (subst (λ (s : ServedState). Knows w.tree w.names (owed w) s) (λ i. record served { tree = (serves.knows).tree_is i }) serves.knows) root some few
