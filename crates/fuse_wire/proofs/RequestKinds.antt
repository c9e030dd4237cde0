-- Each kind of request: its opcode, its nodeid and its body, as they are read, and as their texts are read again.
use Rattle.std.proofs.Common.{◌≡◌, ℕ, ◌^◌, ◌<◌, eqb, List, [], ◌∷◌, ◌++◌, length, Ok, refl, sym, ap, subst, ◌∙◌, arith}
use Rattle.std.proofs.lemmas.Bool.{eqb-true}
use Rattle.std.proofs.lemmas.Bool.Decides.{nat_tests}
use Rattle.std.proofs.lemmas.List.{nil_from_length}
use Rattle.eden_base.specs.declared.attr.Perm.{Perm}
use Rattle.eden_base.specs.declared.number.Number.{Number}
use Rattle.eden_base.specs.Name.{IsNameText}
use Rattle.fuse_wire.specs.declared.request.Request.{Request}
use Rattle.fuse_wire.specs.declared.request.Request.TheVariants as requests
use Rattle.fuse_wire.specs.declared.fault.WireFault.TheVariants.{BadBody}
use Rattle.fuse_wire.specs.declared.request.Opcode.{Opcode}
use Rattle.fuse_wire.specs.declared.request.Opcode.TheVariants.{Lookup, Forget, Getattr, Readlink, Mkdir, Unlink, Rmdir, Rename, Read, Readdir, Create, BatchForget, Other}
use Rattle.fuse_wire.specs.Field.{u64_bytes, u64_at}
use Rattle.byte_codec.specs.Reading.{◌>>=◌}
use Rattle.fuse_wire.specs.Request.{code, opcode_of, opcode, nodeid, IsNodeid, IsSendable}
use Rattle.fuse_wire.specs.RequestBody.{name_of, made_of, move_of, range_of, batch_of, forget_of, what_of, IsBody, IsMadeBody, FitsBody}
use Rattle.byte_codec.specs.Field.{AreBytes}
use Rattle.byte_codec.proofs.StepLemmas.{bind_ok, test_ok, ok_is}
use Rattle.fuse_wire.proofs.Bodies.{name_found, name_again, made_found, made_again, forget_found, forget_again, batch_found, batch_again}
use Rattle.fuse_wire.proofs.Fields.{u64_again}
use Rattle.fuse_wire.proofs.Moves.{move_found, move_again}
use Rattle.fuse_wire.proofs.Ranges.{range_found, range_again}

-- ---- opcodes

-- the opcode of a number has that number
pub code-opcode_of : (n : ℕ) → code (opcode_of n) ≡ n
unfolding opcode_of
code-opcode_of n = grind (arith, nat_tests)

-- the opcode of its number, unless it is another's
pub opcode_again : (request : Request) (body : List ℕ) → IsBody request body → opcode_of (code (opcode request)) ≡ opcode request
unfolding opcode_of
opcode_again (requests.Other n node) body is = is
opcode_again request body is = refl

-- ---- bodies

pub record WhatIs (o : Opcode) (node : Number) (body : List ℕ) (what : Request) : Type 0 where
  pub opcode_is : opcode what ≡ o
  pub nodeid_is : IsNodeid what node.0
  pub body_is : IsBody what body

named : (o : Opcode) (node : Number) (body : List ℕ) (what : Request) (make : List ℕ → Request) → (name_of body >>= λ name. Ok (make name)) ≡ Ok what
    → ((name : List ℕ) → IsNameText name → body ≡ name ++ 0 ∷ [] → WhatIs o node body (make name)) → WhatIs o node body what
named o node body what make e then =
    let b = bind_ok (name_of body) (λ name. Ok (make name)) what e in
    let found = name_found body b.0 b.1 in
    subst (WhatIs o node body) (ok_is (make b.0) what b.2) (then b.0 found.0 found.1)

made : (o : Opcode) (offset rest : ℕ) (node : Number) (body : List ℕ) (what : Request) (make : List ℕ × Perm → Request) → AreBytes body → (made_of offset rest body >>= λ made. Ok (make made)) ≡ Ok what
    → ((name : List ℕ) (perm : Perm) → IsMadeBody offset rest name perm body → WhatIs o node body (make (name, perm))) → WhatIs o node body what
made o offset rest node body what make are e then =
    let b = bind_ok (made_of offset rest body) (λ made. Ok (make made)) what e in
    let found = made_found offset rest body b.0.0 b.0.1 are b.1 in
    subst (WhatIs o node body) (ok_is (make b.0) what b.2) (then b.0.0 b.0.1 found)

pub what_found : (o : Opcode) (node : Number) (body : List ℕ) (what : Request) → AreBytes body → opcode_of (code o) ≡ o → what_of o node body ≡ Ok what → WhatIs o node body what
unfolding what_of
what_found Lookup node body what are known e = named Lookup node body what (requests.Lookup node) e (λ name is parts. record { opcode_is = refl; nodeid_is = refl; body_is = (is, parts) })
what_found Unlink node body what are known e = named Unlink node body what (requests.Unlink node) e (λ name is parts. record { opcode_is = refl; nodeid_is = refl; body_is = (is, parts) })
what_found Rmdir node body what are known e = named Rmdir node body what (requests.Rmdir node) e (λ name is parts. record { opcode_is = refl; nodeid_is = refl; body_is = (is, parts) })
what_found Create node body what are known e =
    let make : List ℕ × Perm → Request = λ made. requests.Create node made.0 made.1 in
    made Create 4 8 node body what make are e (λ name perm is. record { opcode_is = refl; nodeid_is = refl; body_is = is })
what_found Mkdir node body what are known e =
    let make : List ℕ × Perm → Request = λ made. requests.Mkdir node made.0 made.1 in
    made Mkdir 0 4 node body what make are e (λ name perm is. record { opcode_is = refl; nodeid_is = refl; body_is = is })
what_found Rename node body what are known e =
    let make : Number × List ℕ × List ℕ → Request = λ move. requests.Rename node move.1 move.0 move.2 in
    let b = bind_ok (move_of body) (λ move. Ok (make move)) what e in
    subst (WhatIs Rename node body) (ok_is (make b.0) what b.2) (record { opcode_is = refl; nodeid_is = refl; body_is = move_found body b.0.0 b.0.1 b.0.2 are b.1 })
what_found Read node body what are known e =
    let make : ℕ × ℕ → Request = λ range. requests.Read node range.0 range.1 in
    let b = bind_ok (range_of body) (λ range. Ok (make range)) what e in
    subst (WhatIs Read node body) (ok_is (make b.0) what b.2) (record { opcode_is = refl; nodeid_is = refl; body_is = range_found body b.0.0 b.0.1 are b.1 })
what_found Readdir node body what are known e =
    let make : ℕ × ℕ → Request = λ range. requests.Readdir node range.0 range.1 in
    let b = bind_ok (range_of body) (λ range. Ok (make range)) what e in
    subst (WhatIs Readdir node body) (ok_is (make b.0) what b.2) (record { opcode_is = refl; nodeid_is = refl; body_is = range_found body b.0.0 b.0.1 are b.1 })
what_found Getattr node body what are known e =
    let t = test_ok (eqb (length body) 16) BadBody (Ok (requests.Getattr node)) what e in
    subst (WhatIs Getattr node body) (ok_is (requests.Getattr node) what t.1) (record { opcode_is = refl; nodeid_is = refl; body_is = eqb-true _ _ t.0 })
what_found Readlink node body what are known e =
    let t = test_ok (eqb (length body) 0) BadBody (Ok (requests.Readlink node)) what e in
    subst (WhatIs Readlink node body) (ok_is (requests.Readlink node) what t.1) (record { opcode_is = refl; nodeid_is = refl; body_is = nil_from_length body (eqb-true _ _ t.0) })
what_found Forget node body what are known e =
    let b = bind_ok (forget_of node body) (λ item. Ok (requests.Forget item)) what e in
    let found = forget_found node body b.0 are b.1 in
    subst (WhatIs Forget node body) (ok_is (requests.Forget b.0) what b.2) (record { opcode_is = refl; nodeid_is = ap (λ (n : Number). n.0) (sym found.0); body_is = found.1 })
what_found BatchForget node body what are known e =
    let b = bind_ok (batch_of body) (λ items. Ok (requests.BatchForget items)) what e in
    subst (WhatIs BatchForget node body) (ok_is (requests.BatchForget b.0) what b.2) (record { opcode_is = refl; nodeid_is = tt; body_is = batch_found body b.0 are b.1 })
what_found (Other n) node body what are known e =
    subst (WhatIs (Other n) node body) (ok_is (requests.Other n node) what e) (record { opcode_is = refl; nodeid_is = refl; body_is = known })

-- a number by its value
number_is : (m n : Number) → m.0 ≡ n.0 → m ≡ n
number_is m n e = ap (λ (k : ℕ). let r : Number = record { 0 = k } in r) e

pub what_again : (what : Request) (node : Number) (body : List ℕ) → FitsBody what → IsNodeid what node.0 → IsBody what body → what_of (opcode what) node body ≡ Ok what
unfolding what_of
what_again (requests.Lookup dir name) node body fits n is = rw (number_is node dir n, is.1, name_again name is.0) refl
what_again (requests.Unlink dir name) node body fits n is = rw (number_is node dir n, is.1, name_again name is.0) refl
what_again (requests.Rmdir dir name) node body fits n is = rw (number_is node dir n, is.1, name_again name is.0) refl
what_again (requests.Create dir name perm) node body fits n is = rw (number_is node dir n, made_again 4 8 body name perm is) refl
what_again (requests.Mkdir dir name perm) node body fits n is = rw (number_is node dir n, made_again 0 4 body name perm is) refl
what_again (requests.Rename dir name to_dir to_name) node body fits n is = rw (number_is node dir n, move_again body to_dir name to_name fits is) refl
what_again (requests.Read m offset size) node body fits n is = rw (number_is node m n, range_again body offset size fits is) refl
what_again (requests.Readdir dir offset size) node body fits n is = rw (number_is node dir n, range_again body offset size fits is) refl
what_again (requests.Getattr m) node body fits n is = rw (number_is node m n, is) refl
what_again (requests.Readlink m) node body fits n is = rw (number_is node m n, is) refl
what_again (requests.Forget item) node body fits n is = rw (number_is node item.node n, is, forget_again item fits) refl
what_again (requests.BatchForget items) node body fits n is = rw (batch_again body items fits is) refl
what_again (requests.Other k m) node body fits n is = rw (number_is node m n) refl

-- ---- nodeids

-- the nodeid that is written
pub own_nodeid : (request : Request) → IsNodeid request (nodeid request)
own_nodeid (requests.BatchForget items) = tt
own_nodeid request = refl

-- the nodeid that is read is that of the request; before a batch it is any
pub nodeid_read : (what : Request) (n m : ℕ) (rest : List ℕ) → nodeid what < 2 ^ 64 → IsNodeid what n → m ≡ u64_at (u64_bytes n ++ rest) → IsNodeid what m
nodeid_read (requests.BatchForget items) n m rest fits is e = tt
nodeid_read request n m rest fits is e = e ∙ u64_again n rest (rw is fits) ∙ is

-- what has a body may be sent
pub is_sendable : (what : Request) (body : List ℕ) → IsBody what body → IsSendable what
is_sendable (requests.Other n node) body is = is
is_sendable request body is = tt
