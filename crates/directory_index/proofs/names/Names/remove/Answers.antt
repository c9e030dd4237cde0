-- The key has no number any more, or never had this one.
use Rattle.std.proofs.Common.{◌≡◌, ◌==◌, ◌&&◌, Bool, true, false, None, if◌then◌else◌, refl, sym, ap, ◌∙◌}
use Rattle.directory_index.specs.Names.{at_key, Keys}
use Rattle.directory_index.proofs.Keyed.{at_key-remove}
use Rattle.directory_index.proofs.names.Names.remove.Goals as goal

and-true : (b : Bool) → (b && true) ≡ b
and-true true = refl
and-true false = refl

pub returns-then-remove-clause-keys : goal.returns-then-remove-clause-keys
returns-then-remove-clause-keys c k =
    let keys : Keys = c.args.self.now.keys in
    ap (λ (m : Keys). at_key m k) c.if-remove.ensures.removed ∙ at_key-remove keys c.args.key k
    ∙ ap (λ (b : Bool). if b then None else at_key keys k) (sym (and-true (k == c.args.key)) ∙ ap (λ (b : Bool). k == c.args.key && b) c.if-remove.ensures.had)
