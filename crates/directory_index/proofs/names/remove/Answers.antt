-- A name that is taken out of its directory is taken out of all.
use Rattle.std.proofs.Common.{◌≡◌, Some, None, cond, refl, ap, sym, ◌∙◌, Option}
use Rattle.std.specs.Prelude.{nat_eq}
use Rattle.std.specs.Option.{option_and_then}
use Rattle.std.specs.HashMap.{get}
use Rattle.std.specs.Cmp.Lexicographic.{pointwise}
use Rattle.directory_index.specs.Names.{in_directory}
use Rattle.directory_index.specs.declared.names.Others.{Others}
use Rattle.directory_index.proofs.Written.{cond-cond, in_directory-empty, in_directory-remove, written-changed}
use Rattle.directory_index.proofs.names.remove.Goals as goal

pub returns-then-is_empty : goal.returns-then-is_empty
returns-then-is_empty c =
    let old : Others = c.in-Some.directory.now in
    let found : get nat_eq c.args.directories.now c.args.dir ≡ Some old = sym c.in-Some.ensures.value in
    let new : Others = record { numbers = c.remove.new.self } in
    let through = c.get_mut.follows.holds new in
    written-changed c.args.directories.now c.remove-then-is_empty.new.self c.args.dir c.args.name.now None None
    (λ d. c.remove-then-is_empty.ensures.updates.0 d
    ∙ ap (cond (nat_eq c.args.dir d) None) ((through.3 (rw found refl)).0 d)
    ∙ cond-cond (nat_eq c.args.dir d) None (Some new) (get nat_eq c.args.directories.now d))
    (λ q. sym (in_directory-empty new q (c.is_empty.ensures.0 c.if-is_empty.true))
    ∙ in_directory-remove old new c.args.name.now c.remove.ensures.entries c.remove.ensures.updates.1 q
    ∙ ap (λ (o : Option Others). cond (pointwise nat_eq q c.args.name.now) None (option_and_then (in_directory q) o)) (sym found))

pub returns-else-is_empty : goal.returns-else-is_empty
returns-else-is_empty c =
    let old : Others = c.in-Some.directory.now in
    let found : get nat_eq c.args.directories.now c.args.dir ≡ Some old = sym c.in-Some.ensures.value in
    let new : Others = record { numbers = c.remove.new.self } in
    let through = c.get_mut.follows.holds new in
    written-changed c.args.directories.now (c.get_mut.follows.lender new) c.args.dir c.args.name.now (Some new) None (λ d. (through.3 (rw found refl)).0 d)
    (λ q. in_directory-remove old new c.args.name.now c.remove.ensures.entries c.remove.ensures.updates.1 q
    ∙ ap (λ (o : Option Others). cond (pointwise nat_eq q c.args.name.now) None (option_and_then (in_directory q) o)) (sym found))
