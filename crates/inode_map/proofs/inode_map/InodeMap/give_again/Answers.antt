-- The number that the place has is counted once more.
use Rattle.std.proofs.Common.{◌≡◌, ◌<◌, ◌≤◌, Some, IsSome, refl, sym, ◌∙◌, subst}
use Rattle.std.specs.Option.{option_map}
use Rattle.eden_base.proofs.MemberLemmas.{some-IsSome}
use Rattle.eden_base.specs.First.{changed_where}
use Rattle.eden_base.specs.Limits.{greatest_count}
use Rattle.entry_table.specs.Entries.{has_number, entry_of, count_of, once_more, entry_at, number_of_kept, AreNumbers}
use Rattle.inode_map.specs.InodeMap.{MapState, given, loaded_number}
use Rattle.inode_map.specs.Inside.{IsConsistent}
use Rattle.inode_map.specs.Loaded.{attrs_in}
use Rattle.entry_table.specs.Table.{TableState}
use Rattle.inode_map.proofs.Giving.{has-entry, again-full, again-free, again-given, again-kept, is-full, is-free}
use Rattle.inode_map.proofs.Keeping.{of-changed}
use Rattle.inode_map.proofs.TakingBack.{taken-back}
use Rattle.inode_map.proofs.inode_map.InodeMap.give_again.Goals as goal

pub raise-requires : goal.raise-requires
raise-requires c =
    let map = c.args.self.now in
    let numbers = subst (λ (m : MapState). AreNumbers 2 m.next m.entries) c.self.view_is c.self.invariant.numbers in
    let h = has-entry map.entries 2 map.next c.args.parent.0 c.args.name.now c.args.number numbers c.requires.has in
    record {
      held = subst (λ (m : MapState). IsSome (entry_of m.entries c.args.number.0)) (sym c.self.view_is)
          (some-IsSome (entry_of map.entries c.args.number.0) h.kept h.entry);
    }

pub returns-then-not-raise-clause-refused : goal.returns-then-not-raise-clause-refused
returns-then-not-raise-clause-refused c =
    let map = c.args.self.now in
    let numbers = subst (λ (m : MapState). AreNumbers 2 m.next m.entries) c.self.view_is c.self.invariant.numbers in
    let full = subst (λ (m : MapState). greatest_count ≤ count_of m.entries c.args.number.0) c.self.view_is (is-full _ c.if-not-raise.ensures.may) in
    again-full map c.args.parent.0 c.args.name.now c.args.number (count_of map.entries c.args.number.0) numbers c.requires.has refl full

pub invariant_of-self-2 : goal.invariant_of-self-2
invariant_of-self-2 c =
    let t = c.self.inside.table in
    let are = again-kept t.entries t.next c.args.number.0 (record { numbers = c.self.invariant.numbers; of_use = c.self.invariant.of_use }) in
    subst (λ (new : TableState). IsConsistent (record { table = new; bad_items = c.self.inside.bad_items; loaded = c.self.inside.loaded })) (sym c.if-not-raise.ensures.raised) (record {
      numbers = are.numbers;
      numbers_fit = c.self.invariant.numbers_fit;
      of_use = are.of_use;
      loaded = of-changed loaded_number t.entries c.args.number.0 once_more (attrs_in c.self.inside.loaded) (λ x. refl) c.self.invariant.loaded;
      named = c.self.invariant.named;
    })

pub returns-clause-given : goal.returns-clause-given
returns-clause-given c =
    let map = c.args.self.now in
    let numbers = subst (λ (m : MapState). AreNumbers 2 m.next m.entries) c.self.view_is c.self.invariant.numbers in
    let is = again-given map c.args.parent c.args.name.now c.args.number numbers c.requires.has in
    rw c.if-not-raise.ensures.raised (subst (λ (m : MapState). record m { entries = changed_where (has_number c.args.number.0) once_more m.entries } ≡ given map c.args.parent c.args.name.now) (sym c.self.view_is) is)

pub returns-clause-accepted : goal.returns-clause-accepted
returns-clause-accepted c =
    let map = c.args.self.now in
    let numbers = subst (λ (m : MapState). AreNumbers 2 m.next m.entries) c.self.view_is c.self.invariant.numbers in
    let free = subst (λ (m : MapState). count_of m.entries c.args.number.0 < greatest_count) c.self.view_is (is-free _ c.if-not-raise.ensures.may) in
    again-free map c.args.parent.0 c.args.name.now c.args.number (count_of map.entries c.args.number.0) numbers c.requires.has refl free

pub returns-clause-taken_back : goal.returns-clause-taken_back
returns-clause-taken_back c =
    let m = c.self.inside in
    let map : MapState = record { entries = m.table.entries; next = m.table.next; bad_items = m.bad_items; loaded = attrs_in m.loaded; limit = m.loaded.capacity; spare = m.table.spare; remembered = m.table.remembered } in
    let has = subst (λ (s : MapState). Some c.args.number ≡ option_map number_of_kept (entry_at s.entries c.args.parent.0 c.args.name.now)) (sym c.self.view_is) c.requires.has in
    let h = has-entry map.entries 2 map.next c.args.parent.0 c.args.name.now c.args.number c.self.invariant.numbers has in
    rw (c.if-not-raise.ensures.raised) (taken-back map c.args.number.0 h.kept (record { numbers = c.self.invariant.numbers; of_use = c.self.invariant.of_use }) c.self.invariant.loaded c.if-not-raise.ensures.kept h.entry ∙ c.self.view_is)
