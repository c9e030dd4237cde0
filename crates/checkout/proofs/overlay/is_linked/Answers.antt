-- An added link gives the file, or one of the manifest does still.
use Rattle.std.proofs.Common.{◌≡◌, ◌||◌, ℕ, Bool, List, Option, true, false, MatchOption, None, Some, is_some, refl, ap, sym, ◌∙◌}
use Rattle.std.proofs.Math.Bool.{or-true}
use Rattle.std.specs.FinMap.{FinMap, get}
use Rattle.eden_base.specs.declared.number.FileId.{FileId}
use Rattle.checkout.specs.Added.{gives}
use Rattle.manifest.specs.Tree.{link_cmp}
use Rattle.checkout.proofs.LinkLaws.{given_from_link}
use Rattle.checkout.proofs.overlay.is_linked.Goals as goal

-- a file with the directory of an added link is given by it
is_given : (added : FinMap link_cmp FileId) (file : FileId) (dir : Option FileId) → MatchOption dir (gives added file ≡ false) (λ d. (name : List ℕ) × (get added (d.0, name) ≡ Some file)) → is_some dir ≡ gives added file
is_given added file (Some dir) at = sym (given_from_link added dir at.0 file at.1)
is_given added file None none = sym none

or-false : (b : Bool) → (b || false) ≡ b
or-false true = refl
or-false false = refl

pub returns-then-is_left : goal.returns-then-is_left
returns-then-is_left c =
    c.if-is_left.true ∙ sym (ap (λ b. gives c.args.added.now c.args.file || b) (sym c.is_left.ensures ∙ c.if-is_left.true) ∙ or-true (gives c.args.added.now c.args.file))

pub returns-else-is_left : goal.returns-else-is_left
returns-else-is_left c =
    let given = c.is_some.ensures ∙ is_given c.args.added.now c.args.file c.dir_of.result c.dir_of.ensures in
    given ∙ sym (ap (λ b. gives c.args.added.now c.args.file || b) (sym c.is_left.ensures ∙ c.if-is_left.false) ∙ or-false (gives c.args.added.now c.args.file))
