-- Fields that were written one after the other.
use Rattle.std.proofs.Common.{All, ◌≡◌, ℕ, ◌+◌, ◌<◌, ◌≤◌, List, [], ◌∷◌, ◌++◌, length, take, drop, get_or, refl, sym, ap, ◌∙◌, append_assoc, length-append, length-take, arith}
use Rattle.std.proofs.lemmas.List.{append-nil, take-append-drop, drop-drop, drop_all, take_at, drop_at}
use Rattle.std.specs.List.{flat_map}
use Rattle.std.proofs.lemmas.Grind.{common_steps}
use Rattle.std.proofs.lemmas.List.Concat.{flat_map-cons, flat_map-append}
use Rattle.std.proofs.lemmas.List.Elements.{All-push}
use Rattle.fuse_wire.specs.declared.item.Item.{Item}
use Rattle.fuse_wire.specs.declared.writer.MessageWriter.{MessageWriter}
use Rattle.fuse_wire.specs.RequestBody.{item_text, FitsItem}
use Rattle.fuse_wire.specs.Writing.{Writes, Puts}
use Rattle.fuse_wire.proofs.Lengths.{lengths}

-- nothing is written
written_nothing : (old : List ℕ) (at : ℕ) → Writes old old at []
written_nothing old at =
    sym (ap (λ (t : List ℕ). t ++ drop (at + 0) old) (append-nil (take at old)) ∙ ap (λ (n : ℕ). take at old ++ drop n old) (omega arith) ∙ take-append-drop at old)

pub puts_nothing : (writer : MessageWriter) → Puts writer writer []
puts_nothing writer = record { same = refl; field = written_nothing writer.bytes.now writer.at; after = omega arith; len = refl }

-- two texts that were written one after the other are written together
written_then : (old mid new : List ℕ) (at next : ℕ) (xs ys : List ℕ) → next ≡ at + length xs → at ≤ length old → Writes old mid at xs → Writes mid new next ys → Writes old new at (xs ++ ys)
written_then old mid new at next xs ys is fits first second =
    let front : take next mid ≡ take at old ++ xs = ap (take next) first ∙ take_at (take at old ++ xs) (drop (at + length xs) old) next (omega (arith, length-append (take at old) xs, length-take at old)) in
    let back : drop next mid ≡ drop next old = ap (drop next) first ∙ drop_at (take at old ++ xs) (drop (at + length xs) old) next (omega (arith, length-append (take at old) xs, length-take at old)) ∙ ap (λ (n : ℕ). drop n old) (sym is) in
    let later : drop (next + length ys) mid ≡ drop (at + length (xs ++ ys)) old = sym (drop-drop (length ys) next mid) ∙ ap (drop (length ys)) back ∙ drop-drop (length ys) next old ∙ ap (λ (n : ℕ). drop n old) (omega (arith, length-append xs ys)) in
    second ∙ ap (λ (t : List ℕ). (t ++ ys) ++ drop (next + length ys) mid) front ∙ ap (λ (d : List ℕ). ((take at old ++ xs) ++ ys) ++ d) later ∙ ap (λ (t : List ℕ). t ++ drop (at + length (xs ++ ys)) old) (append_assoc (take at old) xs ys)

pub Puts-then : (old mid new : MessageWriter) (xs ys : List ℕ) → Puts mid new ys → Puts old mid xs → old.at ≤ length old.bytes.now → Puts old new (xs ++ ys)
Puts-then old mid new xs ys second first fits = record {
  same = second.same ∙ first.same;
  field = written_then old.bytes.now mid.bytes.now new.bytes.now old.at mid.at xs ys first.after fits first.field second.field;
  after = omega (arith, length-append xs ys, first.after, second.after);
  len = second.len ∙ first.len;
}

-- what is written at the front
pub from_front : (old new : MessageWriter) (bytes : List ℕ) (n : ℕ) → old.at ≡ 0 → n ≡ length bytes → Puts old new bytes → new.bytes.now ≡ bytes ++ drop n old.bytes.now
from_front old new bytes n first is put =
    put.field ∙ ap (λ (k : ℕ). (take k old.bytes.now ++ bytes) ++ drop (k + length bytes) old.bytes.now) first ∙ ap (λ (k : ℕ). bytes ++ drop k old.bytes.now) (omega arith)

-- what fills the whole message
pub whole : (old new : MessageWriter) (bytes : List ℕ) → old.at ≡ 0 → length old.bytes.now ≡ length bytes → Puts old new bytes → new.bytes.now ≡ bytes
whole old new bytes first is put =
    let rest : drop (length old.bytes.now) old.bytes.now ≡ [] = drop_all (length old.bytes.now) old.bytes.now (omega arith) in
    from_front old new bytes (length old.bytes.now) first is put ∙ ap (λ (d : List ℕ). bytes ++ d) rest ∙ append-nil bytes

pub ruleset written = (puts_nothing, Puts-then, lengths)

-- these items were written after what was there
pub record AreWritten (before now : MessageWriter) (items : List Item) : Type 0 where
  pub lines : Puts before now (flat_map item_text items)
  pub fit : All FitsItem items

-- one item more
pub one_written : (before mid new : MessageWriter) (items : List Item) (i : ℕ) (d : Item) → before.at ≤ length before.bytes.now → i < length items → AreWritten before mid (take i items)
    → Puts mid new (item_text (get_or items i d)) → FitsItem (get_or items i d) → AreWritten before new (take (i + 1) items)
one_written before mid new items i d in_range lt were put fits =
    let item = get_or items i d in
    let more : take (i + 1) items ≡ take i items ++ item ∷ [] = grind (arith, common_steps) in
    let written : flat_map item_text (take i items ++ item ∷ []) ≡ flat_map item_text (take i items) ++ item_text item = flat_map-append item_text (take i items) (item ∷ []) ∙ ap (λ (l : List ℕ). flat_map item_text (take i items) ++ l) (flat_map-cons item_text item [] ∙ append-nil (item_text item)) in
    rw more (record {
      lines = rw written (Puts-then before mid new (flat_map item_text (take i items)) (item_text item) put were.lines in_range);
      fit = All-push FitsItem (take i items) item were.fit fits;
    })
