-- An answer that the world may give, after which the daemon knows what the world has; and answers that change nothing.
use Rattle.std.proofs.Common.{◌≡◌, ℕ, ◌+◌, false, Option, Result, sym, ap, ◌∙◌, subst, arith}
use Rattle.std.specs.Option.{option_map_or}
use Rattle.std.specs.Prelude.{◌==◌, if◌then◌else◌}
use Rattle.eden_base.specs.declared.errno.Errno.{Errno}
use Rattle.eden_base.specs.declared.number.Number.{Number}
use Rattle.manifest.specs.Tree.{IsTree}
use Rattle.fuse_wire.specs.Given.{given_out}
use Rattle.fuse_wire.specs.declared.request.Request.{Request}
use Rattle.fuse_wire.specs.declared.reply.Answer.{Answer}
use Rattle.fuse_wire.specs.declared.reply.Answer.TheVariants.{Error}
use Rattle.inode_map.specs.InodeMap.{MapState}
use Rattle.fuse_ops.specs.Answers.{Effect, tree_after, file_told}
use Rattle.fuse_ops.specs.Gifts.{served_over}
use Rattle.fuse_ops.specs.Served.{ServedState, plain, served_after}
use Rattle.world.specs.World.{World, gives, owed, effect_in, MayAnswer, names_after}
use Rattle.world.specs.Agreement.{Knows}
use Rattle.world.proofs.Knowing.{knows-along, knows-plain}
use Rattle.fuse_ops.proofs.Shapes.{error-after}

-- an answer is one of the world's, and the daemon knows what the world has after it
pub record Worked (w : World) (request : Request) (answer : Answer) (later : ServedState) : Type 0 where
  pub may : MayAnswer w request answer
  pub is_tree : IsTree (tree_after w.tree (effect_in w request) answer)
  pub knows : Knows (tree_after w.tree (effect_in w request) answer) (names_after w.names (given_out answer) (file_told (effect_in w request)))
      (λ n. owed w n + (if gives n answer then 1 else 0)) later

-- what is owed after a number was given out
abbrev pub one_more : (ℕ → ℕ) → Option Number → ℕ → ℕ
one_more owes given n = owes n + (if option_map_or (λ (number : Number). number.0 == n) given false then 1 else 0)

-- an answer is one of the world's, by what the request comes to and which number the answer gives out
pub worked-from : (w : World) (request : Request) (answer : Answer) (later : ServedState) (result : Result Effect Errno) (given : Option Number) → effect_in w request ≡ result → given_out answer ≡ given → MayAnswer w request answer →
    IsTree (tree_after w.tree result answer) → Knows (tree_after w.tree result answer) (names_after w.names given (file_told result)) (one_more (owed w) given) later → Worked w request answer later
worked-from w request answer later result given came gave may is k = record {
  may = may;
  is_tree = subst (λ (r : Result Effect Errno). IsTree (tree_after w.tree r answer)) (sym came) is;
  knows = subst (λ (r : Result Effect Errno). Knows (tree_after w.tree r answer) (names_after w.names (given_out answer) (file_told r)) (one_more (owed w) (given_out answer)) later) (sym came)
      (subst (λ (o : Option Number). Knows (tree_after w.tree result answer) (names_after w.names o (file_told result)) (one_more (owed w) o) later) (sym gave) k);
}

-- an answer that is an error changes nothing
pub error-worked : (w : World) (m : MapState) (request : Request) (result : Result Effect Errno) (errno : Errno) (later : ServedState) → IsTree w.tree → Knows w.tree w.names (owed w) (served_over w.tree m) →
    plain later ≡ plain (served_after (served_over w.tree m) request result (Error errno)) → MayAnswer w request (Error errno) → Worked w request (Error errno) later
error-worked w m request result errno later is k makes may = record {
  may = may;
  is_tree = is;
  knows = knows-plain w.tree w.names (λ n. owed w n + 0) later (served_over w.tree m) (makes ∙ ap plain (error-after (served_over w.tree m) request result errno))
      (knows-along w.tree w.names (owed w) (λ n. owed w n + 0) (served_over w.tree m) (λ n. omega arith) k);
}
