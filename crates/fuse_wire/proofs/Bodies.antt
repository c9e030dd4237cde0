-- The bodies of requests: what is read has these bytes as its body, and each body is read.
use Rattle.std.proofs.Common.{All, ◌≡◌, ℕ, zero, suc, ◌+◌, ◌-◌, ◌*◌, ◌%◌, ◌^◌, ◌<◌, ◌≤◌, true, false, cond, not, ◌&&◌, ◌||◌, eqb, ltb, List, [], ◌∷◌, ◌++◌, length, take, drop, get_or, Option, Some, None, Result, Ok, Err, refl, sym, ap, subst, ◌∙◌, append_assoc, length-append, length-take, length-drop, drop-cons, arith}
use Rattle.std.specs.Prelude.{slice_index}
use Rattle.std.specs.List.{flat_map, AllByRecursion}
use Rattle.std.proofs.lemmas.Bool.{and_parts, not-false, or_parts, ltb-false, le-ltb, lt-ltb, eqb-true}
use Rattle.std.proofs.lemmas.Bool.Decides.{nat_tests}
use Rattle.std.proofs.lemmas.List.{append-nil, take-append-drop, drop-drop, nil_from_length, take_at, drop_all, get_or-append_right}
use Rattle.std.proofs.lemmas.List.Elements.{recursion_from_All}
use Rattle.std.proofs.lemmas.List.Concat.{flat_map-cons}
use Rattle.eden_base.specs.declared.attr.Perm.{Perm}
use Rattle.eden_base.specs.declared.name.NameFault.{NameFault}
use Rattle.eden_base.specs.declared.number.Number.{Number}
use Rattle.eden_base.specs.Name.{IsNameText, name_fault}
use Rattle.fuse_wire.specs.declared.fault.WireFault.TheVariants.{BadBody, BadCount}
use Rattle.fuse_wire.specs.declared.item.Item.{Item}
use Rattle.fuse_wire.specs.Field.{u32_bytes, u64_bytes, u32_at, u64_at}
use Rattle.byte_codec.specs.Field.{AreBytes}
use Rattle.byte_codec.specs.Reading.{◌>>=◌}
use Rattle.byte_codec.proofs.ByteLemmas.{AreBytes-drop}
use Rattle.byte_codec.proofs.StepLemmas.{bind_ok, guard_ok, test_ok, done, ok_is}
use Rattle.fuse_wire.specs.RequestBody.{checked, ended_by_nul, name_of, made_of, items_at, batch_of, forget_of, name_text, item_text, IsMadeBody, IsBatchBody, FitsItem}
use Rattle.fuse_wire.specs.Mode.{perm_of}
use Rattle.fuse_wire.proofs.Fields.{u32_again, u64_again, u32_below, u32_front, u64_front}
use Rattle.fuse_wire.proofs.Lengths.{length-u32_bytes, length-u64_bytes, length-items}
use Rattle.fuse_wire.proofs.ReplyLaws.{behind}
use Rattle.eden_base.proofs.PermLemmas.{same_perm}

-- ---- tests

pub yes_eq : (a b : ℕ) → a ≡ b → eqb a b ≡ true
yes_eq a b e = grind (arith, nat_tests)

-- ---- names

pub checked_ok : (cut name : List ℕ) (fault : Option NameFault) → checked cut fault ≡ Ok name → (fault ≡ None) × (cut ≡ name)
checked_ok cut name None e = (refl, ok_is cut name e)
checked_ok cut name (Some fault) e = absurd cc

-- a list up to its last, and its last
last_apart : (xs : List ℕ) (n : ℕ) → n + 1 ≡ length xs → take n xs ++ get_or xs n 0 ∷ [] ≡ xs
last_apart xs n is =
    let rest : drop (suc n) xs ≡ [] = drop_all (suc n) xs (omega arith) in
    let last : drop n xs ≡ get_or xs n 0 ∷ [] = drop-cons xs n 0 (omega arith) ∙ ap (λ (r : List ℕ). get_or xs n 0 ∷ r) rest in
    ap (λ (d : List ℕ). take n xs ++ d) (sym last) ∙ take-append-drop n xs

-- what a NUL ends has these bytes and the NUL
pub ended_found : (bytes name : List ℕ) → ended_by_nul bytes ≡ Ok name → bytes ≡ name_text name
unfolding ended_by_nul
ended_found bytes name e =
    let n = length bytes - 1 in
    let t = test_ok (ltb 0 (length bytes) && eqb (slice_index bytes n) 0) BadBody (Ok (take n bytes)) name e in
    let tests = and_parts (ltb 0 (length bytes)) (eqb (slice_index bytes n) 0) t.0 in
    let some : 0 < length bytes = grind (arith, nat_tests) in
    let nul : slice_index bytes n ≡ 0 = eqb-true _ _ tests.1 in
    let apart : take n bytes ++ slice_index bytes n ∷ [] ≡ bytes = last_apart bytes n (omega arith) in
    sym apart ∙ ap (λ (b : ℕ). take n bytes ++ b ∷ []) nul ∙ ap (λ (m : List ℕ). m ++ 0 ∷ []) (ok_is (take n bytes) name t.1)

pub ended_again : (name : List ℕ) → ended_by_nul (name_text name) ≡ Ok name
unfolding ended_by_nul
ended_again name =
    let len : length (name_text name) - 1 ≡ length name = omega (arith, length-append name (0 ∷ [])) in
    let some : ltb 0 (length (name_text name)) ≡ true = lt-ltb _ _ (omega (arith, length-append name (0 ∷ []))) in
    let first : length name - length name ≡ 0 = omega arith in
    let nul : slice_index (name_text name) (length name) ≡ 0 = get_or-append_right name (0 ∷ []) (length name) (length name) 0 refl (omega arith) ∙ ap (λ (i : ℕ). get_or (0 ∷ []) i 0) first in
    let cut : take (length name) (name_text name) ≡ name = take_at name (0 ∷ []) (length name) refl in
    rw (len, some, nul, cut) refl

pub name_found : (body name : List ℕ) → name_of body ≡ Ok name → IsNameText name × (body ≡ name_text name)
unfolding name_of
name_found body name e =
    let b = bind_ok (ended_by_nul body) (λ n. checked n (name_fault n)) name e in
    let is = checked_ok b.0 name (name_fault b.0) b.2 in
    (subst (λ (m : List ℕ). name_fault m ≡ None) is.1 is.0, ended_found body b.0 b.1 ∙ ap name_text is.1)

pub name_again : (name : List ℕ) → IsNameText name → name_of (name_text name) ≡ Ok name
unfolding name_of
name_again name is = rw (ended_again name, is) refl

-- ---- a mode and a name

-- a count of bytes from an offset on, and the rest
pub parted : (bytes : List ℕ) (n m : ℕ) → take m (drop n bytes) ++ drop (n + m) bytes ≡ drop n bytes
parted bytes n m = ap (λ (d : List ℕ). take m (drop n bytes) ++ d) (sym (drop-drop m n bytes)) ∙ take-append-drop m (drop n bytes)

abbrev pub pair : List ℕ → Perm → List ℕ × Perm
pair name perm = (name, perm)

-- the parts of a body that has a mode at an offset and a count of bytes after it
made_front : (offset rest : ℕ) (body : List ℕ) → AreBytes body → offset + 4 + rest ≤ length body
    → (take offset body ++ u32_bytes (u32_at (drop offset body)) ++ take rest (drop (offset + 4) body)) ++ drop (offset + 4 + rest) body ≡ body
made_front offset rest body are long =
    let second = drop offset body in
    let word = u32_front second (AreBytes-drop offset body are) (omega (arith, length-drop offset body)) in
    let word' : u32_bytes (u32_at second) ++ drop (offset + 4) body ≡ second = ap (λ (d : List ℕ). u32_bytes (u32_at second) ++ d) (sym (drop-drop 4 offset body)) ∙ word in
    let last : take rest (drop (offset + 4) body) ++ drop (offset + 4 + rest) body ≡ drop (offset + 4) body = parted body (offset + 4) rest in
    append_assoc (take offset body ++ u32_bytes (u32_at second)) (take rest (drop (offset + 4) body)) (drop (offset + 4 + rest) body)
    ∙ ap (λ (d : List ℕ). (take offset body ++ u32_bytes (u32_at second)) ++ d) last
    ∙ append_assoc (take offset body) (u32_bytes (u32_at second)) (drop (offset + 4) body)
    ∙ ap (λ (d : List ℕ). take offset body ++ d) word'
    ∙ take-append-drop offset body

pub made_found : (offset rest : ℕ) (body name : List ℕ) (perm : Perm) → AreBytes body → made_of offset rest body ≡ Ok (name, perm) → IsMadeBody offset rest name perm body
unfolding made_of
made_found offset rest body name perm are e =
    let fixed = offset + 4 + rest in
    let second = drop offset body in
    let read = perm_of (u32_at second) in
    let g = guard_ok (ltb (length body) fixed) BadBody (name_of (drop fixed body) >>= λ n. Ok (n, perm_of (u32_at (drop offset body)))) (name, perm) e in
    let b = bind_ok (name_of (drop fixed body)) (λ n. Ok (pair n (perm_of (u32_at (drop offset body))))) (name, perm) g.1 in
    let same : pair b.0 read ≡ pair name perm = ok_is (pair b.0 read) (pair name perm) b.2 in
    let found = name_found (drop fixed body) b.0 b.1 in
    let names : b.0 ≡ name = ap (λ (p : List ℕ × Perm). p.0) same in
    let perms : read ≡ perm = ap (λ (p : List ℕ × Perm). p.1) same in
    let long : fixed ≤ length body = ltb-false _ _ g.0 in
    record {
      before = take offset body;
      mode = u32_at second;
      behind = take rest (drop (offset + 4) body);
      len_before = omega (arith, length-take offset body);
      is_mode = record { in_range = u32_below second (AreBytes-drop offset body are); low = ap (λ (p : Perm). p.bits) perms };
      len_behind = omega (arith, length-take rest (drop (offset + 4) body), length-drop (offset + 4) body);
      is_name = subst IsNameText names found.0;
      parts = sym (made_front offset rest body are long) ∙ ap (λ (d : List ℕ). (take offset body ++ u32_bytes (u32_at second) ++ take rest (drop (offset + 4) body)) ++ d) (found.1 ∙ ap name_text names);
    }

beside_again : {F : Type 0} (read : Result (List ℕ) F) (name : List ℕ) (p q : Perm) → read ≡ Ok name → p ≡ q → (read >>= λ n. done (pair n p)) ≡ done (pair name q)
beside_again read name p q is same = rw (is, same) refl

pub made_again : (offset rest : ℕ) (body name : List ℕ) (perm : Perm) → IsMadeBody offset rest name perm body → made_of offset rest body ≡ Ok (name, perm)
unfolding made_of
made_again offset rest body name perm is =
    let fixed = offset + 4 + rest in
    let r2 = is.behind ++ name_text name in
    let r1 = u32_bytes is.mode ++ r2 in
    let all : body ≡ is.before ++ r1 = is.parts ∙ simp append_assoc in
    let at_mode : drop offset body ≡ r1 = behind body is.before r1 0 offset offset all is.len_before (omega arith) in
    let at_rest : drop (offset + 4) body ≡ r2 = behind body (u32_bytes is.mode) r2 offset 4 (offset + 4) at_mode (length-u32_bytes is.mode) refl in
    let at_name : drop fixed body ≡ name_text name = behind body is.behind (name_text name) (offset + 4) rest fixed at_rest is.len_behind refl in
    let mode : u32_at (drop offset body) ≡ is.mode = ap u32_at at_mode ∙ u32_again is.mode r2 is.is_mode.in_range in
    let low : u32_at (drop offset body) % 4096 ≡ perm.bits = ap (λ (m : ℕ). m % 4096) mode ∙ is.is_mode.low in
    let len : length body ≡ length (is.before ++ r1) = ap length all in
    let long : ltb (length body) fixed ≡ false = le-ltb _ _ (omega (arith, len, length-append is.before r1, length-append (u32_bytes is.mode) r2, length-append is.behind (name_text name), is.len_before, is.len_behind, length-u32_bytes is.mode)) in
    let read : name_of (drop fixed body) ≡ Ok name = ap name_of at_name ∙ name_again name is.is_name in
    let perms : perm_of (u32_at (drop offset body)) ≡ perm = same_perm (perm_of (u32_at (drop offset body))) perm low in
    rw long (beside_again (name_of (drop fixed body)) name (perm_of (u32_at (drop offset body))) perm read perms)

-- ---- forgets

pub forget_found : (node : Number) (body : List ℕ) (item : Item) → AreBytes body → forget_of node body ≡ Ok item → (item.node ≡ node) × (body ≡ u64_bytes item.k)
unfolding forget_of
forget_found node body item are e =
    let read : Item = record { node = node; k = u64_at body } in
    let t = test_ok (eqb (length body) 8) BadBody (Ok read) item e in
    let same : read ≡ item = ok_is read item t.1 in
    let eight : length body ≡ 8 = eqb-true _ _ t.0 in
    let none : drop 8 body ≡ [] = drop_all 8 body (omega arith) in
    let whole : body ≡ u64_bytes (u64_at body) = sym (u64_front body are (omega arith)) ∙ ap (λ (d : List ℕ). u64_bytes (u64_at body) ++ d) none ∙ append-nil (u64_bytes (u64_at body)) in
    (ap (λ (i : Item). i.node) (sym same), whole ∙ ap (λ (i : Item). u64_bytes i.k) same)

pub forget_again : (item : Item) → item.k < 2 ^ 64 → forget_of item.node (u64_bytes item.k) ≡ Ok item
unfolding forget_of
forget_again item fits =
    let k : u64_at (u64_bytes item.k) ≡ item.k = ap u64_at (sym (append-nil (u64_bytes item.k))) ∙ u64_again item.k [] fits in
    let made : ℕ → Item = λ n. record { node = item.node; k = n } in
    rw (length-u64_bytes item.k) (ap (λ (n : ℕ). done (made n)) k)

pub items_found : (n : ℕ) (bytes : List ℕ) → AreBytes bytes → length bytes ≡ 16 * n → (flat_map item_text (items_at n bytes) ≡ bytes) × (length (items_at n bytes) ≡ n)
unfolding items_at
items_found zero bytes are len = let none : bytes ≡ [] = nil_from_length bytes (omega arith) in (sym none, refl)
items_found (suc n) bytes are len =
    let first : Item = record { node = record { 0 = u64_at bytes }; k = u64_at (drop 8 bytes) } in
    let ih = items_found n (drop 16 bytes) (AreBytes-drop 16 bytes are) (omega (arith, length-drop 16 bytes)) in
    let node = u64_front bytes are (omega arith) in
    let k = u64_front (drop 8 bytes) (AreBytes-drop 8 bytes are) (omega (arith, length-drop 8 bytes)) in
    let k' : u64_bytes (u64_at (drop 8 bytes)) ++ drop 16 bytes ≡ drop 8 bytes = ap (λ (d : List ℕ). u64_bytes (u64_at (drop 8 bytes)) ++ d) (sym (drop-drop 8 8 bytes)) ∙ k in
    let whole : item_text first ++ drop 16 bytes ≡ bytes =
    append_assoc (u64_bytes (u64_at bytes)) (u64_bytes (u64_at (drop 8 bytes))) (drop 16 bytes) ∙ ap (λ (d : List ℕ). u64_bytes (u64_at bytes) ++ d) k' ∙ node in
    (flat_map-cons item_text first (items_at n (drop 16 bytes)) ∙ ap (λ (d : List ℕ). item_text first ++ d) ih.0 ∙ whole, ap suc ih.1)

pub items_again : (items : List Item) → AllByRecursion FitsItem items → items_at (length items) (flat_map item_text items) ≡ items
unfolding items_at
items_again [] fits = refl
items_again (item ∷ items) fits =
    let bytes = flat_map item_text (item ∷ items) in
    let rest = flat_map item_text items in
    let r1 = u64_bytes item.k ++ rest in
    let all : bytes ≡ u64_bytes item.node.0 ++ r1 = flat_map-cons item_text item items ∙ append_assoc (u64_bytes item.node.0) (u64_bytes item.k) rest in
    let at8 : drop 8 bytes ≡ r1 = behind bytes (u64_bytes item.node.0) r1 0 8 8 all (length-u64_bytes item.node.0) refl in
    let at16 : drop 16 bytes ≡ rest = behind bytes (u64_bytes item.k) rest 8 8 16 at8 (length-u64_bytes item.k) refl in
    let node : u64_at bytes ≡ item.node.0 = ap u64_at all ∙ u64_again item.node.0 r1 fits.0.node_fits in
    let k : u64_at (drop 8 bytes) ≡ item.k = ap u64_at at8 ∙ u64_again item.k rest fits.0.k_fits in
    let made : ℕ → ℕ → List ℕ → List Item = λ m n bs. record { node = record { 0 = m }; k = n } ∷ items_at (length items) bs in
    ap (λ (m : ℕ). made m (u64_at (drop 8 bytes)) (drop 16 bytes)) node ∙ ap (λ (n : ℕ). made item.node.0 n (drop 16 bytes)) k ∙ ap (λ (bs : List ℕ). made item.node.0 item.k bs) at16
    ∙ ap (λ (is : List Item). item ∷ is) (items_again items fits.1)

pub batch_found : (body : List ℕ) (items : List Item) → AreBytes body → batch_of body ≡ Ok items → IsBatchBody items body
unfolding batch_of
batch_found body items are e =
    let count = u32_at body in
    let g = guard_ok (ltb (length body) 8) BadBody (cond (ltb 256 count || not (eqb (length body) (8 + 16 * count))) (Err BadCount) (Ok (items_at count (drop 8 body)))) items e in
    let h = guard_ok (ltb 256 count || not (eqb (length body) (8 + 16 * count))) BadCount (Ok (items_at count (drop 8 body))) items g.1 in
    let tests = or_parts (ltb 256 count) (not (eqb (length body) (8 + 16 * count))) h.0 in
    let at_most : count ≤ 256 = ltb-false _ _ tests.0 in
    let len : length body ≡ 8 + 16 * count = eqb-true _ _ (not-false (eqb (length body) (8 + 16 * count)) tests.1) in
    let same : items_at count (drop 8 body) ≡ items = ok_is (items_at count (drop 8 body)) items h.1 in
    let lines = items_found count (drop 8 body) (AreBytes-drop 8 body are) (omega (arith, length-drop 8 body)) in
    let many : count ≡ length items = sym lines.1 ∙ ap length same in
    let word = u32_front body are (omega arith) in
    let last : take 4 (drop 4 body) ++ drop 8 body ≡ drop 4 body = parted body 4 4 in
    let whole : (u32_bytes count ++ take 4 (drop 4 body)) ++ drop 8 body ≡ body =
    append_assoc (u32_bytes count) (take 4 (drop 4 body)) (drop 8 body) ∙ ap (λ (d : List ℕ). u32_bytes count ++ d) last ∙ word in
    record {
      others = take 4 (drop 4 body);
      four = omega (arith, length-take 4 (drop 4 body), length-drop 4 body);
      at_most = omega arith;
      parts = sym whole ∙ ap (λ (d : List ℕ). (u32_bytes count ++ take 4 (drop 4 body)) ++ d) (sym lines.0 ∙ ap (flat_map item_text) same) ∙ ap (λ (n : ℕ). (u32_bytes n ++ take 4 (drop 4 body)) ++ flat_map item_text items) many;
    }

pub batch_again : (body : List ℕ) (items : List Item) → All FitsItem items → IsBatchBody items body → batch_of body ≡ Ok items
unfolding batch_of
batch_again body items fits is =
    let n = length items in
    let rest = flat_map item_text items in
    let r1 = is.others ++ rest in
    let all : body ≡ u32_bytes n ++ r1 = is.parts ∙ append_assoc (u32_bytes n) is.others rest in
    let at4 : drop 4 body ≡ r1 = behind body (u32_bytes n) r1 0 4 4 all (length-u32_bytes n) refl in
    let at8 : drop 8 body ≡ rest = behind body is.others rest 4 4 8 at4 is.four refl in
    let count : u32_at body ≡ n = ap u32_at all ∙ u32_again n r1 (omega (arith, is.at_most)) in
    let len : length body ≡ 8 + 16 * n = ap length all ∙ omega (arith, length-append (u32_bytes n) r1, length-append is.others rest, length-u32_bytes n, is.four, length-items items) in
    let long : ltb (length body) 8 ≡ false = le-ltb _ _ (omega arith) in
    let small : ltb 256 n ≡ false = le-ltb _ _ is.at_most in
    let exact : eqb (length body) (8 + 16 * n) ≡ true = yes_eq _ _ len in
    let items_are : items_at n (drop 8 body) ≡ items = ap (items_at n) at8 ∙ items_again items (recursion_from_All FitsItem items fits) in
    rw (count, long, small, exact, items_are) refl
