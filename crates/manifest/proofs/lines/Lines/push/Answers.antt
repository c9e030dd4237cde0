-- One more line, at a new place.
use Rattle.std.proofs.Common.{◌≡◌, ℕ, ◌+◌, ◌==◌, if◌then◌else◌, List, slice_index, [], ◌∷◌, ◌++◌, arith, ap, refl, subst, sym, ◌∙◌}
use Rattle.directory_index.specs.Index.{IsIndexOf}
use Rattle.eden_base.specs.Name.{IsNameText}
use Rattle.manifest.specs.Manifest.{Line, AreLines, kids_in}
use Rattle.manifest.specs.Places.{standing_of}
use Rattle.manifest.specs.Tally.{Tally, count_of}
use Rattle.manifest.proofs.LineCounts.{kids-le-length, kids_in-push}
use Rattle.manifest.proofs.MoreLines.{AreLines-push}
use Rattle.manifest.proofs.PlaceLaws.{index-push, same_lines-know}
use Rattle.manifest.proofs.lines.Lines.push.Goals as goal

-- the counts of the lines so far, where there is room for more
kids : (old mid : Tally) (ls lines : List Line) → mid.counts ≡ old.counts → ((q : ℕ) → count_of old q ≡ kids_in q ls) → ls ≡ lines → (q : ℕ) → count_of mid q ≡ kids_in q lines
kids old mid ls lines same counted view q = ap (λ (cs : List ℕ). slice_index cs q) same ∙ counted q ∙ ap (kids_in q) view

pub make_room-requires : goal.make_room-requires
make_room-requires c =
    let lines = c.self.inside.lines.items in
    record { known = (standing_of lines, c.self.invariant.1, same_lines-know lines c.as_slice.result.now (c.as_slice.ensures.value ∙ c.reserve.ensures.items)) }

pub invariant_of-self-in_err-make_room : goal.invariant_of-self-in_err-make_room
invariant_of-self-in_err-make_room c =
    let lines = c.self.inside.lines.items in
    rw c.reserve.ensures.items (
      c.self.invariant.0,
      c.make_room.ensures.same (standing_of lines) c.self.invariant.1 (same_lines-know lines c.as_slice.result.now (c.as_slice.ensures.value ∙ c.reserve.ensures.items)),
      kids c.self.inside.kids c.reserve-2.new.self lines lines c.reserve-2.ensures.counts c.self.invariant.2 refl,
    )

pub invariant_of-self-2 : goal.invariant_of-self-2
invariant_of-self-2 c =
    let before = c.self.inside.lines.items in
    let lines = c.args.self.now in
    let line = c.args.line in
    let are = subst AreLines c.self.view_is c.self.invariant.0 in
    let name_is = c.bytes.ensures.bytes ∙ ap (λ (l : Line). l.name) c.line.view_is in
    let dir_is = ap (λ (l : Line). l.dir.0) c.line.view_is in
    let index = c.make_room.ensures.same (standing_of before) c.self.invariant.1 (same_lines-know before c.as_slice.result.now (c.as_slice.ensures.value ∙ c.reserve.ensures.items)) in
    let all = (rw c.unwrap.ensures at c.push.ensures.items) ∙ ap (λ xs. xs ++ line ∷ []) (c.reserve.ensures.items ∙ c.self.view_is) in
    rw all (
      AreLines-push lines line are c.requires.room c.requires.size (subst IsNameText name_is c.bytes.ensures.is_name) c.requires.dir c.requires.new,
      index-push lines line c.make_room.new.self c.insert.new.self (subst (λ (ls : List Line). IsIndexOf (standing_of ls) c.make_room.new.self) c.self.view_is index) c.requires.new
          c.line.inside.dir.0 c.bytes.result.now (c.len.result + 2) dir_is name_is (ap (λ (n : ℕ). n + 2) c.len.ensures.len) c.insert.ensures.inserted,
      λ d.
          c.raise.ensures.counts d ∙ ap (λ (n : ℕ). if d == c.line.inside.dir.0 then n + 1 else n) (kids c.self.inside.kids c.reserve-2.new.self before lines c.reserve-2.ensures.counts c.self.invariant.2 c.self.view_is d)
          ∙ ap (λ (x : ℕ). if d == x then kids_in d lines + 1 else kids_in d lines) dir_is ∙ sym (kids_in-push d lines line),
    )

pub raise-requires-clause-fits : goal.raise-requires-clause-fits
raise-requires-clause-fits c =
    let lines = c.args.self.now in
    let dir = c.line.inside.dir.0 in
    omega (arith, kids c.self.inside.kids c.reserve-2.new.self _ lines c.reserve-2.ensures.counts c.self.invariant.2 c.self.view_is dir, kids-le-length dir lines, c.requires.room)
