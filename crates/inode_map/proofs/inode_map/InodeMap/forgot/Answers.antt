-- What becomes of a forget is told by the count and the kids.
use Rattle.std.proofs.Common.{true, false, ap, refl, sym, ◌∙◌, arith}
use Rattle.entry_table.specs.Entries.{is_kid_of}
use Rattle.inode_map.specs.InodeMap.{MapState}
use Rattle.inode_map.proofs.Forgetting.{forgot-good, counted-more, counted-all}
use Rattle.inode_map.proofs.inode_map.InodeMap.forgot.Goals as goal

pub returns-then-count-k-2 : goal.returns-then-count-k-2
returns-then-count-k-2 c = record {
  forgot = sym (forgot-good c.args.self.now c.args.number.0 c.args.k true _ (sym c.if-eq.ensures) c.if-k-eq0.false (omega (arith, c.count-count.ensures.count))
      (counted-more _ _ (omega (arith, c.count-count.ensures.count))) refl);
}

pub returns-then-has_kids : goal.returns-then-has_kids
returns-then-has_kids c = record {
  forgot = sym (forgot-good c.args.self.now c.args.number.0 c.args.k false true (sym c.if-eq.ensures) c.if-k-eq0.false (omega (arith, c.count-count.ensures.count))
      (counted-all _ _ (omega (arith, c.count-count.ensures.count)))
      (ap (λ (m : MapState). Rattle.std.specs.List.list_any (is_kid_of c.args.number.0) m.entries) (sym c.self.view_is) ∙ sym c.if-has_kids.ensures.kids));
}

pub returns : goal.returns
returns c = record {
  forgot = sym (forgot-good c.args.self.now c.args.number.0 c.args.k false false (sym c.if-eq.ensures) c.if-k-eq0.false (omega (arith, c.count-count.ensures.count))
      (counted-all _ _ (omega (arith, c.count-count.ensures.count)))
      (ap (λ (m : MapState). Rattle.std.specs.List.list_any (is_kid_of c.args.number.0) m.entries) (sym c.self.view_is) ∙ sym c.if-has_kids.ensures.kids));
}
