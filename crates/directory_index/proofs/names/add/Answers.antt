-- A number that is written under a name of its directory is written among all.
use Rattle.std.proofs.Common.{ap, ◌∙◌, unwrap_or, cond, Some, nat_eq, arith}
use Rattle.std.specs.Cmp.Lexicographic.{pointwise}
use Rattle.std.specs.HashMap.Entry.{map_with_value}
use Rattle.std.specs.HashMap as hash
use Rattle.directory_index.specs.declared.names.Others.{Others}
use Rattle.directory_index.proofs.Written.{in_directory-insert, in_directory-opened, written-changed}
use Rattle.directory_index.proofs.names.add.Goals as goal

pub returns : goal.returns
returns c =
    let none : Others = record { numbers = c.new.result } in
    let new : Others = record { numbers = c.insert.new.self } in
    let opened : Others = c.or_insert-directory.result.now in
    let found = hash.get nat_eq c.args.directories.now c.args.dir in
    let is = c.or_insert-directory.ensures.value ∙ ap (λ o. unwrap_or o none) c.in_ok-directories.ensures.value in
    let all = written-changed c.args.directories.now (map_with_value c.in_ok-directories.field-0 new) c.args.dir c.args.name.now (Some new) (Some c.args.number)
    (λ d. (c.in_ok-directories.ensures.update.0 new).0 d)
    (λ q. in_directory-insert opened new c.in_ok-name.name c.args.name.now c.args.number c.in_ok-name.ensures.items c.in_ok-insert.ensures.entries q
    ∙ ap (cond (pointwise nat_eq q c.args.name.now) (Some c.args.number)) (in_directory-opened found none opened c.new.ensures.empty is q)) in
    λ d q. let at = all d q in grind (arith, at)
