-- What is read has the text.
use Rattle.std.proofs.Common.{◌≡◌, ℕ, ◌+◌, ◌<◌, ◌≤◌, Bool, true, false, not, nat_le, List, [], ◌∷◌, ◌++◌, codes, length, Option, Some, None, is_none, is_some, unwrap_or, Ok, Err, refl, sym, ap, subst, ◌∙◌, arith, if◌then◌else◌}
use Rattle.manifest.proofs.HexForms.{hex_of_sized}
use Rattle.manifest.proofs.PartsLaws.{has, joined-parts, front-last, split_from_parts}
use Rattle.manifest.proofs.TextLemmas.{some_part}
use Rattle.manifest.specs.Manifest.{Line, Manifest, most_lines}
use Rattle.manifest.specs.ManifestForm.{joined, IsHexText, IsManifestForm, IsLineForm, AreLinesForm, fields_text, path_text}
use Rattle.manifest.specs.ManifestText.{ManifestEntry, entry_of, entry_fault, line_fault, line_said, placed, line_of_entry, line_of_text, on_line, read_on, fault_at, commit_of, digest_of, after_commit, with_commit, manifest_of_lines, manifest_of}
use Rattle.manifest.specs.Placing.{names_of, tree_so_far, only_dir, parent_of, place_fault}
use Rattle.manifest.specs.Names.{is_name}
use Rattle.manifest.specs.Text.{after, parts, front, last}
use Rattle.manifest.specs.Tree.{Tree, root, file_at, kind_of, child_of, is_dir, dir_perm}
use Rattle.manifest.specs.declared.fault.PlaceFault.{PlaceFault}
use Rattle.manifest.specs.declared.fault.PlaceFault.TheVariants.{BadPath, NoParent, Twice, TooManyFiles}
use Rattle.manifest.specs.declared.fault.ManifestFaultKind.{ManifestFaultKind}
use Rattle.eden_base.specs.declared.attr.Perm.{Perm}
use Rattle.eden_base.specs.declared.number.FileId.{FileId}
use Rattle.hex.specs.Hex.{decode_sized}
use Rattle.std.proofs.lemmas.Bool.Decides.{nat_tests}
use Rattle.std.proofs.lemmas.List.{append_assoc, append-nil, length_push}
use Rattle.std.specs.List.{list_all}
use Rattle.std.specs.Option.{option_and_then, option_map, option_or}
use Rattle.std.specs.Result.{result_ok}
use Rattle.manifest.proofs.EntryForms.{append-after, entry_form}

-- no fault of a place
pub record IsPlace (above : List Line) (path : List ℕ) (dir : FileId) : Type 0 where
  pub are_names : list_all is_name (names_of path) ≡ true
  pub lead : file_at (tree_so_far above) root (front (names_of path)) ≡ Some dir
  pub dir_is : parent_of above path ≡ Some dir

parent-lead : (tree : Tree) (found : Option FileId) (dir : FileId) → option_and_then (only_dir tree) found ≡ Some dir → found ≡ Some dir
parent-lead tree None dir h = h
parent-lead tree (Some file) dir h =
    elim (is_dir (kind_of tree file)) as (λ t. (if t then Some file else None) ≡ Some dir → Some file ≡ Some dir) [ true ↦ λ g. g | false ↦ λ g. absurd (cc) ] h

abbrev pub place_test : Bool → Option FileId → Option FileId → Bool → Option PlaceFault
place_test names parent child many =
    if not names then Some BadPath else if is_none parent then Some NoParent else if is_some child then Some Twice else if many then Some TooManyFiles else None

place_test-none : (names : Bool) (parent child : Option FileId) (many : Bool) → place_test names parent child many ≡ None → (names ≡ true) × ((dir : FileId) × (parent ≡ Some dir)) × (many ≡ false)
place_test-none false parent child many h = absurd (cc)
place_test-none true None child many h = absurd (cc)
place_test-none true (Some dir) (Some other) many h = absurd (cc)
place_test-none true (Some dir) None true h = absurd (cc)
place_test-none true (Some dir) None false h = (refl, (dir, refl), refl)

place_from_none : (above : List Line) (path : List ℕ) → place_fault most_lines above path ≡ None → ((dir : FileId) × IsPlace above path dir) × (length above < most_lines)
place_from_none above path h =
    let r = place_test-none (list_all is_name (names_of path)) (parent_of above path) (child_of (tree_so_far above) (unwrap_or (parent_of above path) root) (last (names_of path))) (nat_le most_lines (length above)) h in
    let many = r.2 in
    ((r.1.0, record { are_names = r.0; lead = parent-lead (tree_so_far above) _ r.1.0 r.1.1; dir_is = r.1.1 }), grind (arith, nat_tests))

-- ---- lines

placed-ok : (above : List Line) (e : ManifestEntry) (f : Option ManifestFaultKind) (g : Option PlaceFault) (line : Line) → placed above e (option_or f (option_map line_fault g)) ≡ Ok line → (f ≡ None) × (g ≡ None) × (line_said above e ≡ line)
placed-ok above e None None line h = (refl, refl, cc)
placed-ok above e None (Some fault) line h = absurd (cc)
placed-ok above e (Some fault) g line h = absurd (cc)

form_of_entry : (above : List Line) (text : List ℕ) (e : ManifestEntry) (line : Line) → entry_of text ≡ Some e → line_of_entry above (Some e) ≡ Ok line → has 10 text ≡ false → IsLineForm above line text × (length above < most_lines)
form_of_entry above text e line is h one =
    let p = placed-ok above e (entry_fault (Some e)) (place_fault most_lines above e.path) line h in
    let q = entry_form text e is p.0 in
    let placed = place_from_none above e.path p.1 in
    let r = placed.0 in
    let dir = ap (λ (o : Option FileId). unwrap_or o root) r.1.dir_is in
    let perm = ap (λ (o : Option Perm). unwrap_or o dir_perm) q.2.perm_is in
    let size = ap (λ (o : Option ℕ). unwrap_or o 0) q.2.size_is in
    let name = last (names_of e.path) in
    let same : ◌≡◌ {A = Line} (record { dir = r.0; name = name; file = record { kind = e.kind; perm = q.0; size = q.1 } }) line = (λ i. record { dir = sym dir i; name = name; file = record { kind = e.kind; perm = sym perm i; size = sym size i } }) ∙ p.2 in
    let w = some_part 47 e.path in
    let all : front (names_of e.path) ++ name ∷ [] ≡ names_of e.path = ap (λ ps. front ps ++ last ps ∷ []) w.2 ∙ front-last w.0 w.1 ∙ sym w.2 in (
      subst (λ (l : Line). IsLineForm above l text) same (record {
        names = front (names_of e.path);
        lead = r.1.lead;
        are_names = ap (list_all is_name) all ∙ r.1.are_names;
        is_sayable = q.2.is_sayable;
        is = q.2.is ∙ ap (λ xs. fields_text e.kind q.0 q.1 ++ xs) (sym (ap path_text all ∙ joined-parts 47 e.path));
        is_one_line = one;
      }),
      placed.1,
    )

form_of_line : (above : List Line) (text : List ℕ) (line : Line) → line_of_text above text ≡ Ok line → has 10 text ≡ false → IsLineForm above line text × (length above < most_lines)
form_of_line above text line h one =
    elim (entry_of text) as (λ o. entry_of text ≡ o → line_of_entry above o ≡ Ok line → IsLineForm above line text × (length above < most_lines)) [
      | None ↦ λ k g. absurd (cc)
      | Some e ↦ λ k g. form_of_entry above text e line k g one
    ] refl h

pub form_of_lines : (ps : List (List ℕ)) (above : List Line) (n : ℕ) (text : List ℕ) (lines : List Line) → parts 10 text ≡ ps → read_on above n ps ≡ Ok lines → length above ≤ most_lines →
    ((more : List Line) × (lines ≡ above ++ more) × AreLinesForm above more text) × (length lines ≤ most_lines)
form_of_lines [] above n text lines e h few = absurd (let p = some_part 10 text in let q = p.2 in cc (e, q))
form_of_lines ([] ∷ []) above n text lines e h few =
    let same : lines ≡ above = cc in
    let long = ap length same in
    (([], same ∙ sym (append-nil above), sym (joined-parts 10 text) ∙ ap (λ ps. joined 10 ps) e), omega (arith, few, long))
form_of_lines ((b ∷ bs) ∷ []) above n text lines e h few = absurd (cc)
form_of_lines (first ∷ next ∷ more) above n text lines e h few =
    let s = split_from_parts 10 text first next more e in
    elim (line_of_text above first) as (λ r. line_of_text above first ≡ r → on_line r (λ (line : Line). read_on (above ++ line ∷ []) (n + 1) (next ∷ more)) (λ fault. Err (fault_at n fault)) ≡ Ok lines → ((more : List Line) × (lines ≡ above ++ more) × AreLinesForm above more text) × (length lines ≤ most_lines)) [
      | Ok line ↦ λ k g.
          let f = form_of_line above first line k s.without in
          let long = length_push above line in
          let r = form_of_lines (next ∷ more) (above ++ line ∷ []) (n + 1) s.rest lines s.others g (omega (arith, f.1, long)) in
          ((line ∷ r.0.0, r.0.1 ∙ append_assoc above (line ∷ []) r.0.0, (first, s.rest, f.0, s.is, r.0.2)), r.1)
      | Err fault ↦ λ k g. absurd (cc)
    ] refl h

-- ---- the whole

form_of_commit : (line commit : List ℕ) → commit_of line ≡ Some commit → (digits : List ℕ) × (line ≡ codes "commit " ++ digits) × IsHexText commit digits
form_of_commit line commit h =
    elim (after (codes "commit ") line) as (λ o. after (codes "commit ") line ≡ o → option_and_then (λ (digits : List ℕ). result_ok (decode_sized digits 20)) o ≡ Some commit → (digits : List ℕ) × (line ≡ codes "commit " ++ digits) × IsHexText commit digits) [
      | None ↦ λ e g. absurd (cc)
      | Some digits ↦ λ e g. elim (decode_sized digits 20) as (λ r. decode_sized digits 20 ≡ r → result_ok r ≡ Some commit → (ds : List ℕ) × (line ≡ codes "commit " ++ ds) × IsHexText commit ds) [
        | Err fault ↦ λ k w. absurd (cc)
        | Ok bytes ↦ λ k w. let same : bytes ≡ commit = cc in (digits, append-after (codes "commit ") line digits e, subst (λ bs. IsHexText bs digits) same (hex_of_sized digits bytes k))
      ] refl g
    ] refl h

form_of_parts : (ps : List (List ℕ)) (m : Manifest) (text : List ℕ) → parts 10 text ≡ ps → manifest_of_lines (digest_of text) ps ≡ Ok m → IsManifestForm m text
form_of_parts [] m text e h = absurd (cc)
form_of_parts (first ∷ []) m text e h =
    elim (commit_of first) as (λ o. after_commit (digest_of text) o [] ≡ Ok m → IsManifestForm m text) [ None ↦ λ g. absurd (cc) | Some commit ↦ λ g. absurd (cc) ] h
form_of_parts (first ∷ next ∷ more) m text e h =
    let s = split_from_parts 10 text first next more e in
    elim (commit_of first) as (λ o. commit_of first ≡ o → after_commit (digest_of text) o (next ∷ more) ≡ Ok m → IsManifestForm m text) [
      | None ↦ λ k g. absurd (cc)
      | Some commit ↦ λ k g. elim (read_on [] 2 (next ∷ more)) as (λ r. read_on [] 2 (next ∷ more) ≡ r → with_commit (digest_of text) commit r ≡ Ok m → IsManifestForm m text) [
        | Err fault ↦ λ l w. absurd (cc)
        | Ok lines ↦ λ l w.
            let same : ◌≡◌ {A = Manifest} (record { commit = commit; digest = digest_of text; lines = lines }) m = cc in
            let (f, few) = form_of_lines (next ∷ more) [] 2 s.rest lines s.others l (omega arith) in
            let c = form_of_commit first commit k in
            subst (λ (x : Manifest). IsManifestForm x text) same (record {
              digits = c.0;
              rest = s.rest;
              is_hex = c.2;
              are_lines = subst (λ (ls : List Line). AreLinesForm [] ls s.rest) (sym f.1) f.2;
              few = few;
              is = s.is ∙ ap (λ xs. xs ++ 10 ∷ s.rest) c.1;
              has_digest = refl;
            })
      ] refl g
    ] refl h

-- what is read has the text
pub form_of_read : (text : List ℕ) (m : Manifest) → manifest_of text ≡ Ok m → IsManifestForm m text
form_of_read text m h = form_of_parts (parts 10 text) m text refl h
