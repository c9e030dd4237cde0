-- Entries that are read, and the texts that they have.
use Rattle.std.proofs.Common.{◌≡◌, ℕ, true, false, nat_eq, take, drop, List, [], ◌∷◌, ◌++◌, codes, length, Option, Some, None, is_none, refl, sym, ap, subst, ◌∙◌, if◌then◌else◌}
use Rattle.manifest.proofs.FieldForms.{mode_text-mode_of, decimal_text-size_of}
use Rattle.manifest.proofs.PartsLaws.{joined-cut}
use Rattle.manifest.specs.ManifestForm.{IsSayable, fields_text, mode_text}
use Rattle.manifest.specs.ManifestText.{ManifestEntry, dir_entry, file_entry, link_entry, entry_behind, entry_of, entry_fault}
use Rattle.manifest.specs.Text.{after, front, mode_of, size_of}
use Rattle.manifest.specs.Tree.{dir_perm, link_perm}
use Rattle.manifest.specs.declared.fault.ManifestFaultKind.TheVariants.{BadMode, BadSize}
use Rattle.eden_base.specs.Text.{cut}
use Rattle.eden_base.specs.declared.attr.Kind.TheVariants.{File as RegularFile, Link}
use Rattle.eden_base.specs.declared.attr.Perm.{Perm}
use Rattle.std.proofs.lemmas.Bool.Decides.{Decides-eqb}
use Rattle.std.proofs.lemmas.List.{append_assoc}
use Rattle.std.proofs.lemmas.List.{take-append-drop}
use Rattle.std.proofs.lemmas.Slice.Eq.{slice_eq-Decides}
use Rattle.std.specs.Cmp.Lexicographic.{pointwise}
use Rattle.std.specs.Fmt.{decimal}
use Rattle.std.specs.Option.{option_map, option_and_then}

-- what follows a front
pub append-after : (front text rest : List ℕ) → after front text ≡ Some rest → text ≡ front ++ rest
append-after front text rest h =
    elim (pointwise nat_eq (take (length front) text) front) as (λ t. pointwise nat_eq (take (length front) text) front ≡ t → (if t then Some (drop (length front) text) else None) ≡ Some rest → text ≡ front ++ rest) [
      | true ↦ λ e g.
          let same : take (length front) text ≡ front = (slice_eq-Decides Decides-eqb (take (length front) text) front true (sym e)).0 refl in
          let behind : drop (length front) text ≡ rest = cc in
          sym (take-append-drop (length front) text) ∙ (λ i. same i ++ behind i)
      | false ↦ λ e g. absurd (cc)
    ] refl h

-- an entry that a line says
pub record IsEntry (text : List ℕ) (e : ManifestEntry) (perm : Perm) (size : ℕ) : Type 0 where
  pub perm_is : e.perm ≡ Some perm
  pub size_is : e.size ≡ Some size
  pub is : text ≡ fields_text e.kind perm size ++ e.path
  pub is_sayable : IsSayable e.kind (record { kind = e.kind; perm = perm; size = size })

dir_entry-is : (text path : List ℕ) → after (codes "dir ") text ≡ Some path → IsEntry text (dir_entry path) dir_perm 0
dir_entry-is text path h = record { perm_is = refl; size_is = refl; is = append-after (codes "dir ") text path h; is_sayable = refl }

module _ (text rest mode more size path : List ℕ) (front_is : text ≡ codes "file " ++ rest) (first : rest ≡ mode ++ 32 ∷ more) (second : more ≡ size ++ 32 ∷ path) where
  file-is : (perm : Perm) (n : ℕ) → mode_of mode ≡ Some perm → size_of size ≡ Some n → text ≡ (codes "file " ++ mode_text perm ++ 32 ∷ decimal n ++ 32 ∷ []) ++ path
  file-is perm n is_mode is_size =
      let a = mode_text-mode_of mode perm is_mode in
      let b = decimal_text-size_of size n is_size in
      front_is ∙ ap (λ xs. codes "file " ++ xs) (first ∙ ap (λ xs. mode ++ 32 ∷ xs) second ∙ (λ i. a i ++ 32 ∷ (b i ++ 32 ∷ path)))
      ∙ ap (λ xs. codes "file " ++ mode_text perm ++ 32 ∷ xs) (sym (append_assoc (decimal n) (32 ∷ []) path))

  abbrev said : ManifestEntry
  said = record { kind = RegularFile; perm = mode_of mode; size = size_of size; path = path }

  file_form : entry_fault (Some said) ≡ None → (perm : Perm) × (n : ℕ) × IsEntry text said perm n
  file_form h =
      elim (mode_of mode) as (λ o. mode_of mode ≡ o → (if is_none o then Some BadMode else if is_none (size_of size) then Some BadSize else None) ≡ None → (perm : Perm) × (n : ℕ) × IsEntry text said perm n) [
        | None ↦ λ k g. absurd (cc)
        | Some perm ↦ λ k g. elim (size_of size) as (λ o. size_of size ≡ o → (if is_none o then Some BadSize else None) ≡ None → (perm : Perm) × (n : ℕ) × IsEntry text said perm n) [
          | None ↦ λ l w. absurd (cc)
          | Some n ↦ λ l w. (perm, n, record { perm_is = k; size_is = l; is = file-is perm n k l; is_sayable = tt })
        ] refl g
      ] refl h

-- the entry of a link
abbrev link_with : Option ℕ → List ℕ → ManifestEntry
link_with size path = record { kind = Link; perm = Some link_perm; size = size; path = path }

module _ (text rest size path : List ℕ) (front_is : text ≡ codes "link " ++ rest) (apart : rest ≡ size ++ 32 ∷ path) where
  link-is : (n : ℕ) → size_of size ≡ Some n → text ≡ (codes "link " ++ decimal n ++ 32 ∷ []) ++ path
  link-is n is_size =
      let b = decimal_text-size_of size n is_size in
      front_is ∙ ap (λ xs. codes "link " ++ xs) (apart ∙ (λ i. b i ++ 32 ∷ path) ∙ sym (append_assoc (decimal n) (32 ∷ []) path))

  link_form : entry_fault (Some (link_with (size_of size) path)) ≡ None → (perm : Perm) × (n : ℕ) × IsEntry text (link_with (size_of size) path) perm n
  link_form h =
      elim (size_of size) as (λ o. size_of size ≡ o → (if is_none o then Some BadSize else None) ≡ None → (perm : Perm) × (n : ℕ) × IsEntry text (link_with (size_of size) path) perm n) [
        | None ↦ λ k g. absurd (cc)
        | Some n ↦ λ k g. (link_perm, n, record { perm_is = refl; size_is = k; is = link-is n k; is_sayable = refl })
      ] refl h

file_entry_form : (text rest : List ℕ) (e : ManifestEntry) → text ≡ codes "file " ++ rest → file_entry rest ≡ Some e → entry_fault (Some e) ≡ None → (perm : Perm) × (n : ℕ) × IsEntry text e perm n
file_entry_form text rest e front_is h ok =
    elim (cut 32 rest) as (λ o. cut 32 rest ≡ o → option_and_then (λ (m : List ℕ × List ℕ). option_map (λ (s : List ℕ × List ℕ). record { kind = RegularFile; perm = mode_of m.0; size = size_of s.0; path = s.1 }) (cut 32 m.1)) o ≡ Some e → (perm : Perm) × (n : ℕ) × IsEntry text e perm n) [
      | None ↦ λ k g. absurd (cc)
      | Some m ↦ λ k g. elim (cut 32 m.1) as (λ o. cut 32 m.1 ≡ o → option_map (λ (s : List ℕ × List ℕ). record { kind = RegularFile; perm = mode_of m.0; size = size_of s.0; path = s.1 }) o ≡ Some e → (perm : Perm) × (n : ℕ) × IsEntry text e perm n) [
        | None ↦ λ l w. absurd (cc)
        | Some s ↦ λ l w.
            let first = joined-cut 32 rest m.0 m.1 k in
            let second = joined-cut 32 m.1 s.0 s.1 l in
            let same : said text rest m.0 m.1 s.0 s.1 front_is first second ≡ e = cc in
            subst (λ (x : ManifestEntry). entry_fault (Some x) ≡ None → (perm : Perm) × (n : ℕ) × IsEntry text x perm n) same (file_form text rest m.0 m.1 s.0 s.1 front_is first second) ok
      ] refl g
    ] refl h

link_entry_form : (text rest : List ℕ) (e : ManifestEntry) → text ≡ codes "link " ++ rest → link_entry rest ≡ Some e → entry_fault (Some e) ≡ None → (perm : Perm) × (n : ℕ) × IsEntry text e perm n
link_entry_form text rest e front_is h ok =
    elim (cut 32 rest) as (λ o. cut 32 rest ≡ o → option_map (λ (s : List ℕ × List ℕ). link_with (size_of s.0) s.1) o ≡ Some e → (perm : Perm) × (n : ℕ) × IsEntry text e perm n) [
      | None ↦ λ k g. absurd (cc)
      | Some s ↦ λ k g.
          let apart = joined-cut 32 rest s.0 s.1 k in
          let same : link_with (size_of s.0) s.1 ≡ e = cc in
          subst (λ (x : ManifestEntry). entry_fault (Some x) ≡ None → (perm : Perm) × (n : ℕ) × IsEntry text x perm n) same (link_form text rest s.0 s.1 front_is apart) ok
    ] refl h

pub entry_form : (text : List ℕ) (e : ManifestEntry) → entry_of text ≡ Some e → entry_fault (Some e) ≡ None → (perm : Perm) × (n : ℕ) × IsEntry text e perm n
entry_form text e h ok =
    elim (after (codes "dir ") text) as (λ o. after (codes "dir ") text ≡ o → entry_behind o (after (codes "file ") text) (after (codes "link ") text) ≡ Some e → (perm : Perm) × (n : ℕ) × IsEntry text e perm n) [
      | Some path ↦ λ k g.
          let same : dir_entry path ≡ e = cc in
          subst (λ (x : ManifestEntry). (perm : Perm) × (n : ℕ) × IsEntry text x perm n) same (dir_perm, 0, dir_entry-is text path k)
      | None ↦ λ k g. elim (after (codes "file ") text) as (λ o. after (codes "file ") text ≡ o → entry_behind None o (after (codes "link ") text) ≡ Some e → (perm : Perm) × (n : ℕ) × IsEntry text e perm n) [
        | Some rest ↦ λ l w. file_entry_form text rest e (append-after (codes "file ") text rest l) w ok
        | None ↦ λ l w. elim (after (codes "link ") text) as (λ o. after (codes "link ") text ≡ o → entry_behind None None o ≡ Some e → (perm : Perm) × (n : ℕ) × IsEntry text e perm n) [
          | None ↦ λ m z. absurd (cc)
          | Some rest ↦ λ m z. link_entry_form text rest e (append-after (codes "link ") text rest m) z ok
        ] refl w
      ] refl g
    ] refl h
