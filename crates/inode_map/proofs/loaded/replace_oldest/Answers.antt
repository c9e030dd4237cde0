-- The node of the oldest attributes gets those that are loaded, and their number its note.
use Rattle.std.proofs.Common.{◌≡◌, ℕ, ◌∷◌, List, sym, ap, ◌∙◌, subst}
use Rattle.std.specs.BTreeMap.{insert_entry}
use Rattle.std.specs.Ordering.{nat_cmp}
use Rattle.eden_base.proofs.MemberLemmas.{some-IsSome}
use Rattle.entry_table.specs.Table.{TableState, without_note}
use Rattle.inode_map.specs.Loaded.{attrs_in, AreNamed}
use Rattle.inode_map.specs.declared.loaded.LoadedAttr.{LoadedAttr}
use Rattle.inode_map.proofs.Keeping.{loaded-entry}
use Rattle.inode_map.proofs.Loading.{attr-none, first-held, oldest-left, unnoted}
use Rattle.inode_map.proofs.Replacing.{named-replaced, replaced}
use Rattle.node_arena.proofs.CallerLemmas.{value_at-with_value}
use Rattle.inode_map.proofs.loaded.replace_oldest.Goals as goal

pub touch-requires : goal.touch-requires
touch-requires c =
    let x : LoadedAttr = record { number = c.args.number; attr = c.args.attr } in
    some-IsSome _ x (value_at-with_value c.args.nodes.now c.in-Some.oldest x c.in-Some.ensures.held)

pub note-requires : goal.note-requires
note-requires c =
    let was = c.get_mut-node.result.now in
    let first = first-held c.args.table.now.notes c.args.nodes.now c.in-Some.oldest was c.requires.named c.slots_are_apart.ensures.sound.distinct c.get_mut-node.ensures.value in
    record { held = loaded-entry c.args.table.now.entries was.number.0 (attrs_in c.args.nodes.now) was c.requires.entries first }

pub returns-clause-loaded : goal.returns-clause-loaded
returns-clause-loaded c =
    let nodes = c.args.nodes.now in
    let x : LoadedAttr = record { number = c.args.number; attr = c.args.attr } in
    ap attrs_in (c.touch.ensures.first ∙ replaced nodes c.in-Some.oldest x c.in-Some.ensures.held)
    ∙ ap (λ (xs : List LoadedAttr). x ∷ xs) (oldest-left nodes c.in-Some.oldest c.slots_are_apart.ensures.sound.distinct c.in-Some.ensures.last)

pub returns-clause-still_named : goal.returns-clause-still_named
returns-clause-still_named c =
    let nodes = c.args.nodes.now in
    let notes = c.args.table.now.notes in
    let was = c.get_mut-node.result.now in
    let x : LoadedAttr = record { number = c.args.number; attr = c.args.attr } in
    let oldest = c.in-Some.oldest in
    let n = c.args.number.0 in
    let distinct = c.slots_are_apart.ensures.sound.distinct in
    let is = c.touch.ensures.first ∙ replaced nodes oldest x c.in-Some.ensures.held in
    let none = unnoted notes nodes n c.requires.named distinct (attr-none n (attrs_in nodes) c.requires.unloaded) in
    let noted : c.note-2.new.self.notes ≡ insert_entry nat_cmp (without_note notes was.number.0) n oldest.index =
    ap (λ (t : TableState). t.notes) c.note-2.ensures.noted ∙ ap (λ (t : TableState). insert_entry nat_cmp t.notes n oldest.index) c.note.ensures.noted in
    subst (λ (ns : List (ℕ × ℕ)). AreNamed ns c.touch.new.self) (sym noted)
    (named-replaced notes nodes c.touch.new.self oldest was x distinct c.get_mut-node.ensures.value none is c.requires.named)
