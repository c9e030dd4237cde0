-- What was read in parts was read, and what was written in parts was written.
use Rattle.std.proofs.Common.{◌≡◌, ℕ, ◌+◌, List, [], ◌∷◌, ◌++◌, length, Option, sym, subst, ◌∙◌, length-append, arith}
use Rattle.std.proofs.KnownBytes.{Consumes-nil, Consumes-trans, Appends-nil, Appends-trans}
use Rattle.std.specs.Io.KnownBytes.{Appends, Consumes}
use Rattle.std.proofs.lemmas.List.{append-nil, append_assoc}
use Rattle.sha1.specs.Sha1.{Holds, sha1}
use Rattle.sha1.specs.declared.Sha1.{Sha1}
use Rattle.git_objects.specs.CatFile.{Copies, CopiesAs, IsCopied, answer_of, head_of}
use Rattle.git_objects.specs.Content.{hash_head}

pub known_none : (known : Option (List ℕ)) → Consumes known known []
known_none known = Consumes-nil known

pub known_more : (old mid new : Option (List ℕ)) (front back : List ℕ) → Consumes old mid front → Consumes mid new back → Consumes old new (front ++ back)
known_more old mid new front back first then = Consumes-trans old mid new front back first then

pub copies_none : (said old : Option (List ℕ)) (hasher : Sha1) (size : ℕ) → size ≡ 0 → Copies said said old old hasher hasher size
copies_none said old hasher size is = record {
  bytes = [];
  is_whole = sym is;
  was_said = Consumes-nil said;
  is_written = Appends-nil old;
  is_hashed = λ hashed held. subst (Holds hasher) (sym (append-nil hashed)) held;
}

pub copies : (said left old new : Option (List ℕ)) (before after : Sha1) (size : ℕ) (bytes : List ℕ) → Consumes said left bytes → Appends old new bytes → length bytes ≡ size → ((hashed : List ℕ) → Holds before hashed → Holds after (hashed ++ bytes)) → Copies said left old new before after size
copies said left old new before after size bytes read written is held = record {
  bytes = bytes;
  is_whole = is;
  was_said = read;
  is_written = written;
  is_hashed = held;
}

pub copies_more : (said mid left old between new : Option (List ℕ)) (before amid after : Sha1) (n k size : ℕ) → Copies said mid old between before amid n → Copies mid left between new amid after k → size ≡ n + k → Copies said left old new before after size
copies_more said mid left old between new before amid after n k size first then all = record {
  bytes = first.bytes ++ then.bytes;
  is_whole = omega (arith, length-append first.bytes then.bytes, first.is_whole, then.is_whole, all);
  was_said = Consumes-trans said mid left first.bytes then.bytes first.was_said then.was_said;
  is_written = Appends-trans old between new first.bytes then.bytes first.is_written then.is_written;
  is_hashed = λ hashed held. subst (Holds after) (append_assoc hashed first.bytes then.bytes) (then.is_hashed (hashed ++ first.bytes) (first.is_hashed hashed held));
}

-- a head, the bytes and the LF behind them are the whole answer
pub is_answered : (said mid then left : Option (List ℕ)) (object : List ℕ) (size : ℕ) (bytes : List ℕ) → Consumes said mid (head_of object size) → Consumes mid then bytes → length bytes ≡ size → Consumes then left (10 ∷ []) → Consumes said left (answer_of object bytes)
is_answered said mid then left object size bytes head body whole end =
    let all : Consumes said left ((head_of object size ++ bytes) ++ 10 ∷ []) =
    Consumes-trans said then left (head_of object size ++ bytes) (10 ∷ [])
    (Consumes-trans said mid then (head_of object size) bytes head body) end in
    subst (λ (n : ℕ). Consumes said left ((head_of object n ++ bytes) ++ 10 ∷ [])) (sym whole) all

-- bytes that were hashed behind the head of a blob of their size
pub copies_as : (said left old new : Option (List ℕ)) (before after : Sha1) (size : ℕ) (name : List ℕ) → Copies said left old new before after size → Holds before (hash_head size) → ((m : List ℕ) → Holds after m → name ≡ sha1 m) → CopiesAs said left old new size name
copies_as said left old new before after size name body head end = record {
  bytes = body.bytes;
  is_whole = body.is_whole;
  was_said = body.was_said;
  is_written = body.is_written;
  is_name = subst (λ (n : ℕ). name ≡ sha1 (hash_head n ++ body.bytes)) (sym body.is_whole)
      (end (hash_head size ++ body.bytes) (body.is_hashed (hash_head size) head));
}

pub is_copied : (said mid then left old new : Option (List ℕ)) (object name : List ℕ) (size : ℕ) → Consumes said mid (head_of object size) → CopiesAs mid then old new size name → Consumes then left (10 ∷ []) → name ≡ object → IsCopied said left old new object size
is_copied said mid then left old new object name size head body end is = record {
  blob = body.bytes;
  is_blob = record { is_named = sym body.is_name ∙ is; is_whole = body.is_whole };
  was_said = is_answered said mid then left object size body.bytes head body.was_said body.is_whole end;
  is_written = body.is_written;
}
