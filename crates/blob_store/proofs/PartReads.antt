-- A part of a file grows by a read.
use Rattle.std.proofs.Common.{◌≡◌, ℕ, Bool, true, false, nat_lt, ◌+◌, ◌-◌, ◌<◌, ◌≤◌, List, ◌++◌, length, take, drop, replicate, Option, Some, None, refl, ap, ◌∙◌, sym, arith, length-take-le, length-drop, take_at, drop_at}
use Rattle.std.proofs.Math.Seq.{take-add}
use Rattle.std.proofs.lemmas.Bool.Decides.{nat_tests}
use Rattle.std.proofs.lemmas.List.{drop-drop, take_all, take-append-le}
use borrow.Rule.Slice.PartMut.{put_mid, post_of}
use Rattle.blob_store.specs.Blob.{filled, part}
use Rattle.blob_store.specs.ByteFile.{Ends, GivesPart, Holds}

-- two parts, one behind the other
part_more : (offset held count : ℕ) (blob : List ℕ) → part offset (held + count) blob ≡ part offset held blob ++ part (offset + held) count blob
part_more offset held count blob =
    take-add held count (drop offset blob)
    ∙ ap (λ (l : List ℕ). part offset held blob ++ take count l) (drop-drop held offset blob)

-- what the front of a room has after more was read: what it had, and then what was read
room_grown : (held k count : ℕ) (xs ys : List ℕ) → held ≤ length xs → count ≤ length ys → take (held + count) (put_mid held k xs ys) ≡ take held xs ++ take count ys
room_grown held k count xs ys within fits =
    let after = post_of held k xs in
    let front : take held (put_mid held k xs ys) ≡ take held xs = take_at (take held xs) (ys ++ after) held (length-take-le held xs within) in
    let rest : drop held (put_mid held k xs ys) ≡ ys ++ after = drop_at (take held xs) (ys ++ after) held (length-take-le held xs within) in
    take-add held count (put_mid held k xs ys)
    ∙ ap (λ (t : List ℕ). t ++ take count (drop held (put_mid held k xs ys))) front
    ∙ ap (λ (t : List ℕ). take held xs ++ take count t) rest
    ∙ ap (λ (t : List ℕ). take held xs ++ t) (take-append-le count ys after fits)

-- one read more, into the room behind what it has
pub held_more : (known : Option (List ℕ)) (offset held k count : ℕ) (xs ys : List ℕ) → held ≤ length xs → count ≤ length ys → Holds known offset held xs → Holds known (offset + held) count ys → Holds known offset (held + count) (put_mid held k xs ys)
held_more None offset held k count xs ys within fits has then = tt
held_more (Some blob) offset held k count xs ys within fits has then =
    room_grown held k count xs ys within fits
    ∙ ap (λ (l : List ℕ). l ++ take count ys) has
    ∙ ap (λ (l : List ℕ). part offset held blob ++ l) then
    ∙ sym (part_more offset held count blob)

-- a read that was interrupted leaves what there was
pub held_same : (known : Option (List ℕ)) (offset held k : ℕ) (xs ys : List ℕ) → held ≤ length xs → Holds known offset held xs → Holds known offset held (put_mid held k xs ys)
held_same None offset held k xs ys within has = tt
held_same (Some blob) offset held k xs ys within has = take_at (take held xs) (ys ++ post_of held k xs) held (length-take-le held xs within) ∙ has

pub held_none : (known : Option (List ℕ)) (offset : ℕ) (room : List ℕ) → Holds known offset 0 room
held_none None offset room = tt
held_none (Some blob) offset room = refl

-- ---- the whole part

-- a part that goes on to the end of the blob is no longer than what is there
part_end : (offset held len : ℕ) (blob : List ℕ) → length blob ≤ offset + held → held ≤ len → part offset held blob ≡ part offset len blob
part_end offset held len blob end fits =
    take_all held (drop offset blob) (omega (arith, length-drop offset blob, end))
    ∙ sym (take_all len (drop offset blob) (omega (arith, length-drop offset blob, end, fits)))

same_by : (less : Bool) (offset held len : ℕ) (blob : List ℕ) → nat_lt held len ≡ less → held ≤ len → (held < len → length blob ≤ offset + held) → part offset held blob ≡ part offset len blob
same_by true offset held len blob is fits end = part_end offset held len blob (end (grind (arith, nat_tests))) fits
same_by false offset held len blob is fits end =
    let same : held ≡ len = grind (arith, nat_tests) in
    ap (λ (n : ℕ). part offset n blob) same

-- bytes that were read, filled up with zeros
filled_up : (held len n : ℕ) (read xs bytes : List ℕ) → length read ≡ held → held ≤ len → xs ≡ read → n ≡ held → bytes ≡ take len xs ++ replicate (len - n) 0 → bytes ≡ filled len read
filled_up held len n read xs bytes is fits same count made =
    made ∙ ap (λ (l : List ℕ). take len l ++ replicate (len - n) 0) same
    ∙ ap (λ (l : List ℕ). l ++ replicate (len - n) 0) (take_all len read (omega (arith, is, fits)))
    ∙ ap (λ (k : ℕ). read ++ replicate (len - k) 0) (count ∙ sym is)

pub gives_part : (known : Option (List ℕ)) (offset held len n : ℕ) (room xs bytes : List ℕ) → length room ≡ len → held ≤ len → Holds known offset held room → (held < length room → Ends known (offset + held)) → xs ≡ take held room → n ≡ held → bytes ≡ take len xs ++ replicate (len - n) 0 → GivesPart known offset len bytes
gives_part None offset held len n room xs bytes is fits has end same count made = tt
gives_part (Some blob) offset held len n room xs bytes is fits has end same count made =
    filled_up held len n (take held room) xs bytes (length-take-le held room (omega (arith, is, fits))) fits same count made
    ∙ ap (λ (l : List ℕ). filled len l) (has ∙ same_by (nat_lt held len) offset held len blob refl fits (λ less. end (omega (arith, is, less))))
