-- The key has the number, or each key what it had.
use Rattle.std.proofs.Common.{◌≡◌, ℕ, ◌==◌, ◌&&◌, Result, Ok, Err, OnOk, OnErr, Some, if◌then◌else◌, ap, ◌∙◌}
use Rattle.std.specs.Prelude.{is_ok}
use Rattle.std.specs.FinMap.{insert}
use Rattle.std.specs.declared.alloc.AllocError.{AllocError}
use Rattle.directory_index.specs.Names.{at_key, Keys}
use Rattle.directory_index.proofs.Keyed.{at_key-insert}
use Rattle.directory_index.proofs.names.Names.add_at_key.Goals as goal

either : (result : Result (Unit {0}) AllocError) (old new : Keys) (key number : ℕ) → OnOk result (new ≡ insert old key number) → OnErr result (new ≡ old) →
    (k : ℕ) → at_key new k ≡ (if is_ok result && k == key then Some number else at_key old k)
either (Ok u) old new key number ok err k = ap (λ (keys : Keys). at_key keys k) ok ∙ at_key-insert old key number k
either (Err e) old new key number ok err k = ap (λ (keys : Keys). at_key keys k) err

pub returns-clause-keys : goal.returns-clause-keys
returns-clause-keys c = either c.insert.result c.args.self.now.keys c.insert.new.self c.args.key c.args.number c.insert.ensures.ok c.insert.ensures.err
