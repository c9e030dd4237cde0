-- An entry of a directory that was written is read again, and bytes that are read are the entry's text.
use Rattle.std.proofs.Common.{◌≡◌, ℕ, ◌+◌, ◌^◌, ◌<◌, ◌≤◌, Bool, true, false, cond, ltb, List, [], ◌∷◌, ◌++◌, length, take, drop, Option, Some, None, Result, Ok, Err, IfOk, refl, sym, ap, ◌∙◌, append_assoc, length-append, length-take, length-drop, arith}
use Rattle.std.specs.Str.{bytes_eq}
use Rattle.std.proofs.lemmas.Bool.{ltb-false, le-ltb}
use Rattle.std.proofs.lemmas.Bool.Decides.{nat_tests}
use Rattle.std.proofs.lemmas.List.{take-append-drop, drop_at, drop-drop, take_at, take-replicate}
use Rattle.std.proofs.lemmas.Slice.Eq.{bytes_eq-Decides}
use Rattle.eden_base.specs.declared.attr.Kind.{Kind}
use Rattle.eden_base.specs.declared.attr.Kind.TheVariants.{File, Dir, Link}
use Rattle.eden_base.specs.declared.name.NameFault.{NameFault}
use Rattle.byte_codec.specs.Field.{AreBytes}
use Rattle.byte_codec.specs.Reading.{◌>>=◌}
use Rattle.byte_codec.proofs.ByteLemmas.{AreBytes-drop}
use Rattle.fuse_wire.specs.declared.fault.WireFault.{WireFault}
use Rattle.fuse_wire.specs.declared.fault.WireFault.TheVariants.{Short, BadLength, BadBody}
use Rattle.fuse_wire.specs.DirectoryEntries.{Dirent, FitsDirent, IsEntryName, entry_at, entry_len, entry_name_fault, entry_of, entry_text, entry_type, fixed_part, kind_typed, name_in, namelen_at, next_entry, padding_len}
use Rattle.fuse_wire.specs.Field.{zeros, u32_bytes, u64_bytes, u32_at, u64_at}
use Rattle.fuse_wire.specs.RequestBody.{checked}
use Rattle.fuse_wire.proofs.Fields.{u32_again, u64_again, u32_front, u64_front}
use Rattle.fuse_wire.proofs.Lengths.{lengths, length-u32_bytes, length-u64_bytes, length-zeros}
use Rattle.fuse_wire.proofs.ReplyLaws.{behind}

-- ---- lengths

pub length-fixed_part : (entry : Dirent) → length (fixed_part entry) ≡ 24
length-fixed_part entry = grind (arith, lengths)

pub length-entry_text : (entry : Dirent) → length (entry_text entry) ≡ entry_len (length entry.name)
length-entry_text entry = omega (arith, length-append (fixed_part entry ++ entry.name) (zeros (padding_len (length entry.name))), length-append (fixed_part entry) entry.name, length-fixed_part entry, length-zeros (padding_len (length entry.name)))

-- a name of an entry has at most 255 bytes
pub entry_name_is_short : (name : List ℕ) → IsEntryName name → length name ≤ 255
entry_name_is_short name is = grind (arith, nat_tests)

-- as many of eight zeros as stand behind a name
pub padding_zeros : (p namelen : ℕ) → p ≡ padding_len namelen → take p (0 ∷ 0 ∷ 0 ∷ 0 ∷ 0 ∷ 0 ∷ 0 ∷ 0 ∷ []) ≡ zeros (padding_len namelen)
unfolding zeros
padding_zeros p namelen is = ap (λ (k : ℕ). take k (0 ∷ 0 ∷ 0 ∷ 0 ∷ 0 ∷ 0 ∷ 0 ∷ 0 ∷ [])) is ∙ take-replicate (padding_len namelen) 8 0 (omega arith)

-- ---- what was written is read again

kind_again : (kind : Kind) → kind_typed (entry_type kind) ≡ Some kind
kind_again File = refl
kind_again Dir = refl
kind_again Link = refl

type_fits : (kind : Kind) → entry_type kind < 2 ^ 32
type_fits File = omega arith
type_fits Dir = omega arith
type_fits Link = omega arith

pub name_again : (name rest : List ℕ) → IsEntryName name → name_in (length name) (name ++ (zeros (padding_len (length name)) ++ rest)) ≡ Ok name
unfolding name_in
name_again name rest is =
    let n = length name in
    let p = padding_len n in
    let front : take n (name ++ (zeros p ++ rest)) ≡ name = take_at name (zeros p ++ rest) n refl in
    let back : drop n (name ++ (zeros p ++ rest)) ≡ zeros p ++ rest = drop_at name (zeros p ++ rest) n refl in
    let pad : take p (zeros p ++ rest) ≡ zeros p = take_at (zeros p) rest p (length-zeros p) in
    let same : bytes_eq (zeros p) (zeros p) ≡ true = grind (arith, bytes_eq-Decides) in
    rw (front, back, pad, same, is) refl

-- the fields of an entry, and what stands behind them
pub record FieldsAre (entry : Dirent) (bytes rest : List ℕ) : Type 0 where
  pub number : u64_at bytes ≡ entry.number
  pub next : u64_at (drop 8 bytes) ≡ entry.next
  pub namelen : u32_at (drop 16 bytes) ≡ length entry.name
  pub typed : u32_at (drop 20 bytes) ≡ entry_type entry.kind
  pub name : drop 24 bytes ≡ entry.name ++ (zeros (padding_len (length entry.name)) ++ rest)

fields_again : (entry : Dirent) (rest : List ℕ) → FitsDirent entry → FieldsAre entry (entry_text entry ++ rest) rest
fields_again entry rest fits =
    let bytes = entry_text entry ++ rest in
    let len = length entry.name in
    let short : length entry.name ≤ 255 = entry_name_is_short entry.name fits.is_name in
    let r5 = entry.name ++ (zeros (padding_len len) ++ rest) in
    let r4 = u32_bytes (entry_type entry.kind) ++ r5 in
    let r3 = u32_bytes len ++ r4 in
    let r2 = u64_bytes entry.next ++ r3 in
    let all : bytes ≡ u64_bytes entry.number ++ r2 = simp append_assoc in
    let at8 : drop 8 bytes ≡ r2 = behind bytes (u64_bytes entry.number) r2 0 8 8 all (length-u64_bytes entry.number) refl in
    let at16 : drop 16 bytes ≡ r3 = behind bytes (u64_bytes entry.next) r3 8 8 16 at8 (length-u64_bytes entry.next) refl in
    let at20 : drop 20 bytes ≡ r4 = behind bytes (u32_bytes len) r4 16 4 20 at16 (length-u32_bytes len) refl in
    let at24 : drop 24 bytes ≡ r5 = behind bytes (u32_bytes (entry_type entry.kind)) r5 20 4 24 at20 (length-u32_bytes (entry_type entry.kind)) refl in
    record {
      number = ap u64_at all ∙ u64_again entry.number r2 fits.number_fits;
      next = ap u64_at at8 ∙ u64_again entry.next r3 fits.next_fits;
      namelen = ap u32_at at16 ∙ u32_again len r4 (omega arith);
      typed = ap u32_at at20 ∙ u32_again (entry_type entry.kind) r5 (type_fits entry.kind);
      name = at24;
    }

-- bytes that have an entry's fields are read as it
read_by_fields : (entry : Dirent) (bytes rest : List ℕ) → IsEntryName entry.name → entry_len (length entry.name) ≤ length bytes → FieldsAre entry bytes rest → entry_at bytes ≡ Ok entry
unfolding entry_at
read_by_fields entry bytes rest is whole fields =
    let long : ltb (length bytes) 24 ≡ false = le-ltb _ _ (omega arith) in
    let uncut : ltb (length bytes) (entry_len (length entry.name)) ≡ false = le-ltb _ _ whole in
    let kind : kind_typed (u32_at (drop 20 bytes)) ≡ Some entry.kind = ap kind_typed fields.typed ∙ kind_again entry.kind in
    let name : name_in (length entry.name) (drop 24 bytes) ≡ Ok entry.name = ap (name_in (length entry.name)) fields.name ∙ name_again entry.name rest is in
    rw (long, fields.namelen, uncut, kind, fields.namelen, name, fields.number, fields.next) refl

-- the entry of bytes of which all but the name was read
pub read_of : (bytes : List ℕ) (kind : Kind) → 24 ≤ length bytes → entry_len (namelen_at bytes) ≤ length bytes → kind_typed (u32_at (drop 20 bytes)) ≡ Some kind
    → entry_at bytes ≡ entry_of (Some kind) bytes
unfolding entry_at
read_of bytes kind long whole is =
    let short : ltb (length bytes) 24 ≡ false = le-ltb _ _ long in
    let cut : ltb (length bytes) (entry_len (namelen_at bytes)) ≡ false = le-ltb _ _ whole in
    rw (short, cut, is) refl

pub entry_again : (entry : Dirent) (rest : List ℕ) → FitsDirent entry → entry_at (entry_text entry ++ rest) ≡ Ok entry
entry_again entry rest fits =
    read_by_fields entry (entry_text entry ++ rest) rest fits.is_name (omega (arith, length-append (entry_text entry) rest, length-entry_text entry)) (fields_again entry rest fits)

-- the text of an entry is not empty, so it is read as the next one
pub next_again : (entry : Dirent) (bytes rest : List ℕ) → FitsDirent entry → bytes ≡ entry_text entry ++ rest → next_entry bytes ≡ Ok (Some entry)
next_again entry [] rest fits is =
    absurd (let none : 0 ≡ length (entry_text entry ++ rest) = ap length is in omega (arith, length-append (entry_text entry) rest, length-entry_text entry))
next_again entry (byte ∷ more) rest fits is =
    ap (λ (r : Result Dirent WireFault). r >>= λ e. Ok (Some e)) (ap entry_at is ∙ entry_again entry rest fits)

-- what stands behind the text of an entry
pub rest_again : (entry : Dirent) (bytes rest : List ℕ) (n : ℕ) → bytes ≡ entry_text entry ++ rest → length (entry_text entry) ≡ n → drop n bytes ≡ rest
rest_again entry bytes rest n is len = ap (drop n) is ∙ drop_at (entry_text entry) rest n len

-- ---- what is read was written

kind_found : (n : ℕ) (kind : Kind) → kind_typed n ≡ Some kind → entry_type kind ≡ n
kind_found n File e = grind (arith, nat_tests)
kind_found n Dir e = grind (arith, nat_tests)
kind_found n Link e = grind (arith, nat_tests)

-- the name that was read stands in front, with zeros behind it
pub record NameIs (namelen : ℕ) (bytes name : List ℕ) : Type 0 where
  pub len : length name ≡ namelen
  pub text : bytes ≡ name ++ (zeros (padding_len namelen) ++ drop (padding_len namelen) (drop namelen bytes))

front_is : (n p : ℕ) (bytes pad : List ℕ) → n + p ≤ length bytes → take p (drop n bytes) ≡ pad → bytes ≡ take n bytes ++ (pad ++ drop p (drop n bytes))
front_is n p bytes pad long is =
    sym (take-append-drop n bytes) ∙ ap (λ (t : List ℕ). take n bytes ++ t) (sym (take-append-drop p (drop n bytes)) ∙ ap (λ (t : List ℕ). t ++ drop p (drop n bytes)) is)

name_checked : (n : ℕ) (bytes : List ℕ) (fault : Option NameFault) → NameIs n bytes (take n bytes) → IfOk (checked (take n bytes) fault) (NameIs n bytes)
name_checked n bytes None is = is
name_checked n bytes (Some fault) is = tt

name_if : (n : ℕ) (bytes : List ℕ) (same : Bool) → n + padding_len n ≤ length bytes → bytes_eq (take (padding_len n) (drop n bytes)) (zeros (padding_len n)) ≡ same
    → IfOk (cond same (checked (take n bytes) (entry_name_fault (take n bytes))) (Err BadBody)) (NameIs n bytes)
name_if n bytes true long e =
    let zero : take (padding_len n) (drop n bytes) ≡ zeros (padding_len n) = (bytes_eq-Decides (take (padding_len n) (drop n bytes)) (zeros (padding_len n))).0 e in
    name_checked n bytes (entry_name_fault (take n bytes)) (record {
      len = omega (arith, length-take n bytes);
      text = front_is n (padding_len n) bytes (zeros (padding_len n)) long zero;
    })
name_if n bytes false long e = tt

pub name_found : (n : ℕ) (bytes : List ℕ) → n + padding_len n ≤ length bytes → IfOk (name_in n bytes) (NameIs n bytes)
unfolding name_in
name_found n bytes long = name_if n bytes (bytes_eq (take (padding_len n) (drop n bytes)) (zeros (padding_len n))) long refl

-- the fixed part that was read, and what stands behind it
fixed_found : (bytes : List ℕ) → AreBytes bytes → 24 ≤ length bytes
    → bytes ≡ u64_bytes (u64_at bytes) ++ (u64_bytes (u64_at (drop 8 bytes)) ++ (u32_bytes (u32_at (drop 16 bytes)) ++ (u32_bytes (u32_at (drop 20 bytes)) ++ drop 24 bytes)))
fixed_found bytes are long =
    let first = u64_front bytes are (omega arith) in
    let second = u64_front (drop 8 bytes) (AreBytes-drop 8 bytes are) (omega (arith, length-drop 8 bytes)) in
    let third = u32_front (drop 16 bytes) (AreBytes-drop 16 bytes are) (omega (arith, length-drop 16 bytes)) in
    let fourth = u32_front (drop 20 bytes) (AreBytes-drop 20 bytes are) (omega (arith, length-drop 20 bytes)) in
    let at16 : drop 8 (drop 8 bytes) ≡ drop 16 bytes = drop-drop 8 8 bytes in
    let at20 : drop 4 (drop 16 bytes) ≡ drop 20 bytes = drop-drop 4 16 bytes in
    let at24 : drop 4 (drop 20 bytes) ≡ drop 24 bytes = drop-drop 4 20 bytes in
    sym first ∙ ap (λ (t : List ℕ). u64_bytes (u64_at bytes) ++ t) (sym second ∙ ap (λ (t : List ℕ). u64_bytes (u64_at (drop 8 bytes)) ++ t) (at16 ∙ sym third ∙ ap (λ (t : List ℕ). u32_bytes (u32_at (drop 16 bytes)) ++ t) (at20 ∙ sym fourth ∙ ap (λ (t : List ℕ). u32_bytes (u32_at (drop 20 bytes)) ++ t) at24)))

-- the bytes are the text of the entry, and others
abbrev pub IsFront : List ℕ → Dirent → Type 0
IsFront bytes entry = bytes ≡ entry_text entry ++ drop (length (entry_text entry)) bytes

-- bytes that begin with a text are that text and what is behind it
with_rest : (bytes text rest : List ℕ) → bytes ≡ text ++ rest → bytes ≡ text ++ drop (length text) bytes
with_rest bytes text rest is = is ∙ ap (λ (t : List ℕ). text ++ t) (sym (ap (drop (length text)) is ∙ drop_at text rest (length text) refl))

dirent : ℕ → ℕ → Kind → List ℕ → Dirent
dirent number next kind name = record { number = number; next = next; kind = kind; name = name }

of_name : (bytes : List ℕ) (kind : Kind) (name : Result (List ℕ) WireFault) → AreBytes bytes → 24 ≤ length bytes → entry_type kind ≡ u32_at (drop 20 bytes)
    → IfOk name (NameIs (namelen_at bytes) (drop 24 bytes))
    → IfOk (name >>= λ n. Ok (dirent (u64_at bytes) (u64_at (drop 8 bytes)) kind n)) (IsFront bytes)
unfolding dirent
of_name bytes kind (Ok name) are long typed is =
    let p = padding_len (length name) in
    let pad : padding_len (namelen_at bytes) ≡ p = ap (λ (n : ℕ). padding_len n) (sym is.len) in
    let rest = drop (padding_len (namelen_at bytes)) (drop (namelen_at bytes) (drop 24 bytes)) in
    let behind_it : drop 24 bytes ≡ name ++ (zeros p ++ rest) = is.text ∙ ap (λ (n : ℕ). name ++ (zeros n ++ rest)) pad in
    let fixed = fixed_found bytes are long in
    let with_len : bytes ≡ u64_bytes (u64_at bytes) ++ (u64_bytes (u64_at (drop 8 bytes)) ++ (u32_bytes (length name) ++ (u32_bytes (entry_type kind) ++ (name ++ (zeros p ++ rest))))) =
    fixed ∙ ap (λ (n : ℕ). u64_bytes (u64_at bytes) ++ (u64_bytes (u64_at (drop 8 bytes)) ++ (u32_bytes n ++ (u32_bytes (u32_at (drop 20 bytes)) ++ drop 24 bytes)))) (sym is.len)
    ∙ ap (λ (n : ℕ). u64_bytes (u64_at bytes) ++ (u64_bytes (u64_at (drop 8 bytes)) ++ (u32_bytes (length name) ++ (u32_bytes n ++ drop 24 bytes)))) (sym typed)
    ∙ ap (λ (t : List ℕ). u64_bytes (u64_at bytes) ++ (u64_bytes (u64_at (drop 8 bytes)) ++ (u32_bytes (length name) ++ (u32_bytes (entry_type kind) ++ t)))) behind_it in
    let text = entry_text (dirent (u64_at bytes) (u64_at (drop 8 bytes)) kind name) in
    let grouped : text ++ rest ≡ u64_bytes (u64_at bytes) ++ (u64_bytes (u64_at (drop 8 bytes)) ++ (u32_bytes (length name) ++ (u32_bytes (entry_type kind) ++ (name ++ (zeros p ++ rest))))) = simp append_assoc in
    with_rest bytes text rest (with_len ∙ sym grouped)
of_name bytes kind (Err fault) are long typed is = tt

of_kind : (bytes : List ℕ) (kind : Option Kind) → AreBytes bytes → 24 ≤ length bytes → entry_len (namelen_at bytes) ≤ length bytes → kind_typed (u32_at (drop 20 bytes)) ≡ kind → IfOk (entry_of kind bytes) (IsFront bytes)
unfolding dirent
of_kind bytes None are long whole e = tt
of_kind bytes (Some kind) are long whole e =
    of_name bytes kind (name_in (namelen_at bytes) (drop 24 bytes)) are long (kind_found (u32_at (drop 20 bytes)) kind e) (name_found (namelen_at bytes) (drop 24 bytes) (omega (arith, length-drop 24 bytes)))

found_if : (bytes : List ℕ) (short cut : Bool) → AreBytes bytes → ltb (length bytes) 24 ≡ short → ltb (length bytes) (entry_len (namelen_at bytes)) ≡ cut
    → IfOk (cond short (Err Short) (cond cut (Err BadLength) (entry_of (kind_typed (u32_at (drop 20 bytes))) bytes))) (IsFront bytes)
found_if bytes true cut are s w = tt
found_if bytes false true are s w = tt
found_if bytes false false are s w = of_kind bytes (kind_typed (u32_at (drop 20 bytes))) are (ltb-false _ _ s) (ltb-false _ _ w) refl

pub entry_found : (bytes : List ℕ) → AreBytes bytes → IfOk (entry_at bytes) (IsFront bytes)
unfolding entry_at
entry_found bytes are = found_if bytes (ltb (length bytes) 24) (ltb (length bytes) (entry_len (namelen_at bytes))) are refl refl

pub ruleset entries = (length-fixed_part, length-entry_text, entry_name_is_short, padding_zeros)
