-- Members and the header are steady: more bytes after them change nothing.
use Rattle.std.proofs.Common.{ℕ, ltb, eqb, nat_le, Bool, true, false, List, Option, Some, None, Err, refl}
use Rattle.std.specs.Prelude.{is_some}
use Rattle.std.specs.Int.{w16, w64}
use Rattle.byte_codec.specs.Reading.{◌>>=◌, byte_at, bytes_at, number_at}
use Rattle.checkout.specs.declared.changes.Made.{Made}
use Rattle.eden_base.specs.declared.place.Place.TheVariants.{Linked, Unlinked}
use Rattle.eden_base.specs.Name.{name_fault}
use Rattle.manifest.specs.declared.link_change.LinkChange.{LinkChange}
use Rattle.entry_table.specs.declared.kept.Kept.{Kept}
use Rattle.map_image.specs.declared.fault.ImageFault.TheVariants.{BadMark, BadName, BadVersion, NotRising, Short}
use Rattle.map_image.specs.declared.version.NamedBy.{NamedBy}
use Rattle.map_image.specs.declared.version.VersionForm.{VersionForm}
use Rattle.map_image.specs.Feeding.{front_at}
use Rattle.map_image.specs.Fit.{is_next_file, is_next_number, is_next_place}
use Rattle.map_image.specs.ImageReading.{count_at, counted_at, entry_at, file_at, form_at, header_at, kind_of_mark, known, link_at, made_at, mark_at, name_at, named, perm_at, perm_of, place_at, rising_at, rising_place, target_at}
use Rattle.map_image.specs.Versions.{form_of, length_width, width_of}
use Rattle.map_image.proofs.SteadyLaws.{IsSteady, steady_bind, steady_byte, steady_bytes, steady_cond, steady_err, steady_magic, steady_number, steady_ok}

-- ---- fields

steady_mark : IsSteady mark_at
unfolding mark_at
steady_mark = steady_bind (byte_at Short) _ steady_byte (λ mark. steady_cond (ltb 1 mark) (λ rest. Err BadMark) _ (steady_err BadMark refl) (steady_ok (eqb mark 1)))

steady_counted : IsSteady counted_at
unfolding counted_at
steady_counted = steady_bind (byte_at Short) (λ len rest. bytes_at Short len rest) steady_byte (λ len. steady_bytes len)

steady_named : (field : List ℕ) → IsSteady (λ (rest : List ℕ). named (field, rest))
steady_named field = steady_cond (is_some (name_fault field)) (λ rest. Err BadName) _ (steady_err BadName refl) (steady_ok field)

steady_name : IsSteady name_at
unfolding name_at
steady_name = steady_bind counted_at (λ field rest. named (field, rest)) steady_counted steady_named

steady_place : (unlinked : Bool) → IsSteady (place_at unlinked)
unfolding place_at
steady_place true = steady_bind (number_at Short w64) (λ file rest. _) (steady_number w64) (λ file. steady_ok (Unlinked (record { 0 = file })))
steady_place false = steady_bind (number_at Short w64) (λ parent rest. name_at rest >>= λ name. _) (steady_number w64) (λ parent. steady_bind name_at (λ name rest. _) steady_name (λ name. steady_ok (Linked (record { 0 = parent }) name)))

steady_rising : (last : Option Kept) → IsSteady (rising_at last)
unfolding rising_at
steady_rising last = steady_bind (number_at Short w64) _ (steady_number w64) (λ n. steady_cond (is_next_number last n) _ (λ rest. Err NotRising) (steady_ok n) (steady_err NotRising refl))

steady_count : (form : VersionForm) → IsSteady (count_at form)
unfolding count_at
steady_count form = steady_bind (number_at Short (width_of form.count_width)) _ (steady_number (width_of form.count_width)) (λ n. steady_cond (nat_le n form.greatest_count) _ (λ rest. Err BadMark) (steady_ok n) (steady_err BadMark refl))

steady_file : (last : Option Made) → IsSteady (file_at last)
unfolding file_at
steady_file last = steady_bind (number_at Short w64) _ (steady_number w64) (λ n. steady_cond (is_next_file last n) _ (λ rest. Err NotRising) (steady_ok n) (steady_err NotRising refl))

steady_perm : IsSteady perm_at
unfolding perm_at
steady_perm = steady_bind (number_at Short w16) _ (steady_number w16) (λ bits. steady_cond (ltb 4095 bits) (λ rest. Err BadMark) _ (steady_err BadMark refl) (steady_ok (perm_of bits)))

steady_rising_place : (last : Option LinkChange) (dir : ℕ) (field : List ℕ) → IsSteady (λ (rest : List ℕ). rising_place last dir (field, rest))
unfolding rising_place
steady_rising_place last dir field = steady_cond (is_next_place last dir field) (λ rest. named (field, rest)) (λ rest. Err NotRising) (steady_named field) (steady_err NotRising refl)

steady_target : (there : Bool) → IsSteady (target_at there)
unfolding target_at
steady_target false = steady_ok None
steady_target true = steady_bind (number_at Short w64) _ (steady_number w64) (λ file. steady_ok (Some (record { 0 = file })))

-- ---- members

pub steady_entry : (form : VersionForm) (last : Option Kept) → IsSteady (entry_at form last)
unfolding entry_at
steady_entry form last =
    steady_bind (rising_at last) _ (steady_rising last) (λ number.
    steady_bind mark_at _ steady_mark (λ unlinked.
    steady_bind (count_at form) _ (steady_count form) (λ count.
    steady_bind (place_at unlinked) _ (steady_place unlinked) (λ place.
    steady_ok (record { number = record { 0 = number }; place = place; count = count })))))

pub steady_made : (last : Option Made) → IsSteady (made_at last)
unfolding made_at
steady_made last =
    steady_bind (file_at last) _ (steady_file last) (λ file.
    steady_bind mark_at _ steady_mark (λ is_dir.
    steady_bind perm_at _ steady_perm (λ perm.
    steady_ok (record { file = record { 0 = file }; kind = kind_of_mark is_dir; perm = perm }))))

pub steady_link : (last : Option LinkChange) → IsSteady (link_at last)
unfolding link_at
steady_link last =
    steady_bind (number_at Short w64) _ (steady_number w64) (λ dir.
    steady_bind counted_at _ steady_counted (λ field.
    steady_bind (λ (rest : List ℕ). rising_place last dir (field, rest)) _ (steady_rising_place last dir field) (λ name.
    steady_bind mark_at _ steady_mark (λ there.
    steady_bind (target_at there) _ (steady_target there) (λ target.
    steady_ok (record { dir = record { 0 = dir }; name = name; target = target }))))))

-- ---- the front

steady_known : (form : Option VersionForm) → IsSteady (known form)
steady_known None = steady_err BadVersion refl
steady_known (Some form) = steady_ok form

steady_form : IsSteady form_at
unfolding form_at
steady_form = steady_bind (number_at Short w16) (λ version rest. known (form_of version) rest) (steady_number w16) (λ version. steady_known (form_of version))

steady_header : (by : NamedBy) → IsSteady (header_at by)
unfolding header_at
steady_header by =
    steady_bind (bytes_at Short 20) _ (steady_bytes 20) (λ name.
    steady_bind (number_at Short w64) _ (steady_number w64) (λ generation.
    steady_bind (number_at Short w64) _ (steady_number w64) (λ number.
    steady_bind (number_at Short w64) _ (steady_number w64) (λ file.
    steady_ok (record { name = record { by = by; bytes = name }; generation = generation; next_number = number; next_file = file })))))

pub steady_front : IsSteady front_at
unfolding front_at
steady_front =
    steady_magic _ (
    steady_bind form_at _ steady_form (λ form.
    steady_bind (header_at form.named_by) _ (steady_header form.named_by) (λ header.
    steady_bind (number_at Short length_width) _ (steady_number length_width) (λ count.
    steady_ok (record { form = form; header = header; count = count })))))
