-- What each row of the versions keeps.
use Rattle.std.proofs.Common.{◌≡◌, ◌<◌, ◌^◌, ℕ, Bool, true, false, cond, eqb, Option, Some, None, refl, sym, subst, arith}
use Rattle.std.proofs.lemmas.Bool.{eqb-true}
use Rattle.map_image.specs.declared.version.NamedBy.{NamedBy}
use Rattle.map_image.specs.declared.version.NamedBy.TheVariants.{Commit, Digest}
use Rattle.map_image.specs.declared.version.VersionForm.{VersionForm}
use Rattle.map_image.specs.Versions.{IsForm, first_form, form_of, fourth_form, is_named_so, second_form, third_form}

-- a version that there is, and its form
pub record IsRow (version : ℕ) (form : VersionForm) : Type 0 where
  pub version_has_room : version < 2 ^ 16
  pub keeps : IsForm form

-- ---- a lemma for each row

first_row : IsRow 1 first_form
first_row = record {
  version_has_room = omega arith;
  keeps = record {
    count_has_room = omega arith;
    count_is_held = omega arith;
    empty_has_room = omega arith;
    lists_are_few = omega arith;
    parts_are_few = omega arith;
  };
}

second_row : IsRow 2 second_form
second_row = record {
  version_has_room = omega arith;
  keeps = record {
    count_has_room = omega arith;
    count_is_held = omega arith;
    empty_has_room = omega arith;
    lists_are_few = omega arith;
    parts_are_few = omega arith;
  };
}

third_row : IsRow 3 third_form
third_row = record {
  version_has_room = omega arith;
  keeps = record {
    count_has_room = omega arith;
    count_is_held = omega arith;
    empty_has_room = omega arith;
    lists_are_few = omega arith;
    parts_are_few = omega arith;
  };
}

fourth_row : IsRow 4 fourth_form
fourth_row = record {
  version_has_room = omega arith;
  keeps = record {
    count_has_room = omega arith;
    count_is_held = omega arith;
    empty_has_room = omega arith;
    lists_are_few = omega arith;
    parts_are_few = omega arith;
  };
}

-- ---- the table

-- it is this row, or one of those after it
this_or : (is_it : Bool) (version known : ℕ) (this form : VersionForm) (others : Option VersionForm) → eqb version known ≡ is_it → IsRow known this → (others ≡ Some form → IsRow version form) → cond is_it (Some this) others ≡ Some form → IsRow version form
this_or true version known this form others same row behind is =
    let one : this ≡ form = cc in
    subst (λ (v : ℕ). IsRow v form) (sym (eqb-true version known same)) (subst (IsRow known) one row)
this_or false version known this form others same row behind is = behind is

none_is_some : (form : VersionForm) → (let none : Option VersionForm = None in none) ≡ Some form → ⊥
none_is_some form is = cc

pub row : (version : ℕ) (form : VersionForm) → form_of version ≡ Some form → IsRow version form
row version form =
    this_or (eqb version 1) version 1 first_form form (cond (eqb version 2) (Some second_form) (cond (eqb version 3) (Some third_form) (cond (eqb version 4) (Some fourth_form) None))) refl first_row
    (this_or (eqb version 2) version 2 second_form form (cond (eqb version 3) (Some third_form) (cond (eqb version 4) (Some fourth_form) None)) refl second_row
    (this_or (eqb version 3) version 3 third_form form (cond (eqb version 4) (Some fourth_form) None) refl third_row
    (this_or (eqb version 4) version 4 fourth_form form None refl fourth_row (λ none. absurd (none_is_some form none)))))

-- ---- names of a manifest

pub named_alike : (by other : NamedBy) → is_named_so by other ≡ true → by ≡ other
named_alike Commit Commit e = refl
named_alike Digest Digest e = refl
named_alike Commit Digest e = absurd cc
named_alike Digest Commit e = absurd cc
