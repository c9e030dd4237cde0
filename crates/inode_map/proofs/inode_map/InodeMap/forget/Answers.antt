-- A forget lowers, and strikes what is of no use.
use Rattle.std.proofs.Common.{◌≡◌, ◌-◌, true, false, Some, List, refl, sym, subst, ap, ◌∙◌, arith}
use Rattle.std.specs.Prelude.{nat_lt}
use Rattle.std.specs.List.{list_any}
use Rattle.std.proofs.lemmas.Bool.Decides.{nat_tests}
use Rattle.entry_table.specs.EntryPlaces.{AreOfUseBut}
use Rattle.inode_map.specs.Inside.{IsConsistent}
use Rattle.entry_table.specs.Entries.{count_of, is_kid_of, lowered, AreNumbers}
use Rattle.inode_map.specs.InodeMap.{MapState, forgot, is_useless, left_of_use, loaded_number}
use Rattle.inode_map.specs.Loaded.{attrs_in, AreNamed}
use Rattle.inode_map.specs.declared.loaded.LoadedAttr.{LoadedAttr}
use Rattle.entry_table.specs.Table.{TableState, AreOfKept}
use Rattle.inode_map.specs.Pruned.{of_kept, pruned}
use Rattle.entry_table.specs.declared.kept.Kept.{Kept}
use Rattle.inode_map.proofs.Forgetting.{told-by, forgot-told, lowered-numbers, lowered-others, struck-kept}
use Rattle.inode_map.proofs.Keeping.{of_kept-kept}
use Rattle.inode_map.proofs.Lowering.{seen, loaded-less, kids-less, less-consistent, less-forgotten}
use Rattle.inode_map.proofs.inode_map.InodeMap.forget.Goals as goal

pub invariant_of-self-then-left-gt0 : goal.invariant_of-self-then-left-gt0
invariant_of-self-then-left-gt0 c =
    let m = c.self.inside in
    let n = c.args.number.0 in
    let counted : nat_lt 0 (count_of m.table.entries n - c.args.k) ≡ true = let l = c.in-Some.ensures.left in let some = c.if-left-gt0.true in grind (arith, nat_tests) in
    let told = told-by (seen m c.args.self.now c.lower.new.self n c.args.k m.table) n c.args.k true (list_any (is_kid_of n) m.table.entries) (sym c.if-eq.ensures) c.in-Some.ensures.good counted refl in
    less-consistent m c.args.self.now c.lower.new.self n c.args.k c.self.invariant c.in-Some.ensures.lowered told

pub returns-then-left-gt0-clause-forgot : goal.returns-then-left-gt0-clause-forgot
returns-then-left-gt0-clause-forgot c =
    let m = c.self.inside in
    let n = c.args.number.0 in
    let map = seen m c.args.self.now c.lower.new.self n c.args.k m.table in
    let counted : nat_lt 0 (count_of m.table.entries n - c.args.k) ≡ true = let l = c.in-Some.ensures.left in let some = c.if-left-gt0.true in grind (arith, nat_tests) in
    let told = told-by map n c.args.k true (list_any (is_kid_of n) m.table.entries) (sym c.if-eq.ensures) c.in-Some.ensures.good counted refl in
    sym (forgot-told map n c.args.k false told) ∙ ap (λ (s : MapState). forgot s n c.args.k) c.self.view_is

pub returns-then-left-gt0-clause-forgotten : goal.returns-then-left-gt0-clause-forgotten
returns-then-left-gt0-clause-forgotten c =
    let m = c.self.inside in
    let n = c.args.number.0 in
    let counted : nat_lt 0 (count_of m.table.entries n - c.args.k) ≡ true = let l = c.in-Some.ensures.left in let some = c.if-left-gt0.true in grind (arith, nat_tests) in
    let told = told-by (seen m c.args.self.now c.lower.new.self n c.args.k m.table) n c.args.k true (list_any (is_kid_of n) m.table.entries) (sym c.if-eq.ensures) c.in-Some.ensures.good counted refl in
    less-forgotten m c.args.self.now c.lower.new.self n c.args.k c.self.view_is c.self.invariant c.in-Some.ensures.lowered c.in-Some.ensures.kept told

pub invariant_of-self-then-has_kids : goal.invariant_of-self-then-has_kids
invariant_of-self-then-has_kids c =
    let m = c.self.inside in
    let n = c.args.number.0 in
    let counted : nat_lt 0 (count_of m.table.entries n - c.args.k) ≡ false = let l = c.in-Some.ensures.left in let none = c.if-left-gt0.false in grind (arith, nat_tests) in
    let kids = kids-less m c.args.self.now c.lower.new.self n c.args.k true c.in-Some.ensures.lowered c.if-has_kids.ensures.kids in
    let told = told-by (seen m c.args.self.now c.lower.new.self n c.args.k m.table) n c.args.k false true (sym c.if-eq.ensures) c.in-Some.ensures.good counted kids in
    less-consistent m c.args.self.now c.lower.new.self n c.args.k c.self.invariant c.in-Some.ensures.lowered told

pub returns-then-has_kids-clause-forgot : goal.returns-then-has_kids-clause-forgot
returns-then-has_kids-clause-forgot c =
    let m = c.self.inside in
    let n = c.args.number.0 in
    let map = seen m c.args.self.now c.lower.new.self n c.args.k m.table in
    let counted : nat_lt 0 (count_of m.table.entries n - c.args.k) ≡ false = let l = c.in-Some.ensures.left in let none = c.if-left-gt0.false in grind (arith, nat_tests) in
    let kids = kids-less m c.args.self.now c.lower.new.self n c.args.k true c.in-Some.ensures.lowered c.if-has_kids.ensures.kids in
    let told = told-by map n c.args.k false true (sym c.if-eq.ensures) c.in-Some.ensures.good counted kids in
    sym (forgot-told map n c.args.k false told) ∙ ap (λ (s : MapState). forgot s n c.args.k) c.self.view_is

pub returns-then-has_kids-clause-forgotten : goal.returns-then-has_kids-clause-forgotten
returns-then-has_kids-clause-forgotten c =
    let m = c.self.inside in
    let n = c.args.number.0 in
    let counted : nat_lt 0 (count_of m.table.entries n - c.args.k) ≡ false = let l = c.in-Some.ensures.left in let none = c.if-left-gt0.false in grind (arith, nat_tests) in
    let kids = kids-less m c.args.self.now c.lower.new.self n c.args.k true c.in-Some.ensures.lowered c.if-has_kids.ensures.kids in
    let told = told-by (seen m c.args.self.now c.lower.new.self n c.args.k m.table) n c.args.k false true (sym c.if-eq.ensures) c.in-Some.ensures.good counted kids in
    less-forgotten m c.args.self.now c.lower.new.self n c.args.k c.self.view_is c.self.invariant c.in-Some.ensures.lowered c.in-Some.ensures.kept told

pub drop_upwards-requires-clause-numbers : goal.drop_upwards-requires-clause-numbers
drop_upwards-requires-clause-numbers c =
    let t = c.self.inside.table in
    subst (λ (new : TableState). AreNumbers 2 new.next new.entries) (sym c.in-Some.ensures.lowered) (lowered-numbers t.entries t.next c.args.number.0 c.args.k c.self.invariant.numbers)

pub drop_upwards-requires-clause-useless : goal.drop_upwards-requires-clause-useless
drop_upwards-requires-clause-useless c =
    let m = c.self.inside in
    let n = c.args.number.0 in
    let counted : nat_lt 0 (count_of m.table.entries n - c.args.k) ≡ false = let l = c.in-Some.ensures.left in let none = c.if-left-gt0.false in grind (arith, nat_tests) in
    let kids = kids-less m c.args.self.now c.lower.new.self n c.args.k false c.in-Some.ensures.lowered c.if-has_kids.ensures.kids in
    let told = told-by (seen m c.args.self.now c.lower.new.self n c.args.k m.table) n c.args.k false false (sym c.if-eq.ensures) c.in-Some.ensures.good counted kids in
    subst (λ (new : TableState). is_useless new.entries n ≡ true) (sym c.in-Some.ensures.lowered) told.useless

pub drop_upwards-requires-clause-others_of_use : goal.drop_upwards-requires-clause-others_of_use
drop_upwards-requires-clause-others_of_use c =
    subst (λ (new : TableState). AreOfUseBut (Some c.args.number.0) new.entries) (sym c.in-Some.ensures.lowered) (lowered-others c.self.inside.table.entries c.args.number.0 c.args.k c.self.invariant.of_use)

pub drop_upwards-requires-clause-loaded : goal.drop_upwards-requires-clause-loaded
drop_upwards-requires-clause-loaded c =
    let m = c.self.inside in
    subst (λ (new : TableState). AreOfKept loaded_number new.entries (attrs_in m.loaded)) (sym c.in-Some.ensures.lowered) (loaded-less m c.args.self.now c.lower.new.self c.args.number.0 c.args.k c.self.invariant)

pub drop_upwards-requires-clause-named : goal.drop_upwards-requires-clause-named
drop_upwards-requires-clause-named c = subst (λ (new : TableState). AreNamed new.notes c.self.inside.loaded) (sym c.in-Some.ensures.lowered) c.self.invariant.named

pub invariant_of-self-2 : goal.invariant_of-self-2
invariant_of-self-2 c =
    let m = c.self.inside in
    let t = m.table in
    let less = c.in-Some.ensures.lowered in
    let es : List Kept = left_of_use (lowered t.entries c.args.number.0 c.args.k) in
    let now = struck-kept t.entries t.next c.args.number.0 c.args.k (record { numbers = c.self.invariant.numbers; of_use = c.self.invariant.of_use }) in
    let left = c.drop_upwards.ensures.pruned ∙ ap (λ (s : TableState). pruned s c.drop_upwards.new.table.notes) less in
    let loaded = c.drop_upwards.ensures.unloaded ∙ ap (λ (s : TableState). of_kept loaded_number (left_of_use s.entries) (attrs_in m.loaded)) less in
    subst (λ (new : TableState). IsConsistent (record { table = new; bad_items = m.bad_items; loaded = c.drop_upwards.new.loaded })) (sym left) (record {
      numbers = now.numbers;
      numbers_fit = c.self.invariant.numbers_fit;
      of_use = now.of_use;
      loaded = subst (λ (xs : List LoadedAttr). AreOfKept loaded_number es xs) (sym loaded) (of_kept-kept loaded_number es (attrs_in m.loaded));
      named = c.drop_upwards.ensures.still_named;
    })

pub returns-clause-forgot : goal.returns-clause-forgot
returns-clause-forgot c =
    let m = c.self.inside in
    let n = c.args.number.0 in
    let map = seen m c.args.self.now c.lower.new.self n c.args.k m.table in
    let counted : nat_lt 0 (count_of m.table.entries n - c.args.k) ≡ false = let l = c.in-Some.ensures.left in let none = c.if-left-gt0.false in grind (arith, nat_tests) in
    let kids = kids-less m c.args.self.now c.lower.new.self n c.args.k false c.in-Some.ensures.lowered c.if-has_kids.ensures.kids in
    let told = told-by map n c.args.k false false (sym c.if-eq.ensures) c.in-Some.ensures.good counted kids in
    sym (forgot-told map n c.args.k true told) ∙ ap (λ (s : MapState). forgot s n c.args.k) c.self.view_is
