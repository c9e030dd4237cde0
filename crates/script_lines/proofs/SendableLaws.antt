-- The request of a line that asks can be sent.
use Rattle.std.proofs.Common.{ℕ, Bool, true, false, cond, List, Option, Some, None}
use Rattle.std.specs.Prelude.{IfSome, codes, nat_lt, ◌^◌}
use Rattle.std.specs.Option.{option_map, option_and_then}
use Rattle.eden_base.specs.Text.{cut}
use Rattle.fuse_wire.specs.Request.{other_of, is_ask, IsSendable}
use Rattle.fuse_wire.specs.declared.request.Request.{Request}
use Rattle.fuse_wire.proofs.OtherLaws.{other-sendable}
use Rattle.script_lines.specs.BrokerLine.{asked_by, ask_of, seat_of, forgets_of, broker_line_by, broker_line_of, IsSendableLine}
use Rattle.script_lines.specs.EventLine.{named_of, made_of, pair_of, lookup_of, unlink_of, rmdir_of, rename_of, names_of, create_of, mkdir_of, forget_of, getattr_of, readlink_of, range_of, read_of, readdir_of, other_in, other_said, naming_by, request_by, request_of}
use Rattle.script_lines.specs.Number.{number_of}
use Rattle.script_lines.specs.Words.{is_word}
use Rattle.script_lines.specs.declared.broker_line.BrokerLine.TheVariants as says

-- ---- what is there, if it is there

mapped : {A B : Type 0} (P : B → Type 0) (f : A → B) (o : Option A) → ((a : A) → P (f a)) → IfSome (option_map f o) P
mapped P f None all = tt
mapped P f (Some a) all = all a

followed : {A B : Type 0} (P : B → Type 0) (f : A → Option B) (o : Option A) → ((a : A) → IfSome (f a) P) → IfSome (option_and_then f o) P
followed P f None all = tt
followed P f (Some a) all = all a

either : {A : Type 0} (P : A → Type 0) (b : Bool) (x y : Option A) → IfSome x P → IfSome y P → IfSome (cond b x y) P
either P true x y first second = first
either P false x y first second = second

-- ---- requests

sendable-in : (n node : ℕ) → IfSome (other_in n node) IsSendable
sendable-in n node = either IsSendable (nat_lt n (2 ^ 32)) (other_of n (record { 0 = node })) None (other-sendable n (record { 0 = node })) tt

sendable-moved : (words : List ℕ) → IfSome (rename_of words) IsSendable
sendable-moved words =
    followed IsSendable _ (cut 32 words)
    (λ parts. followed IsSendable _ (number_of parts.0)
    (λ dir. followed IsSendable _ (cut 32 parts.1)
    (λ others. followed IsSendable _ (number_of others.0)
    (λ to_dir. mapped IsSendable _ (names_of others.1) (λ _. tt)))))

sendable-naming : (word rest : List ℕ) → IfSome (naming_by word rest) IsSendable
sendable-naming word rest =
    either IsSendable (is_word word (codes "lookup")) (lookup_of rest) _ (mapped IsSendable _ (named_of rest) (λ _. tt))
    (either IsSendable (is_word word (codes "create")) (create_of rest) _ (mapped IsSendable _ (made_of rest) (λ _. tt))
    (either IsSendable (is_word word (codes "mkdir")) (mkdir_of rest) _ (mapped IsSendable _ (made_of rest) (λ _. tt))
    (either IsSendable (is_word word (codes "unlink")) (unlink_of rest) _ (mapped IsSendable _ (named_of rest) (λ _. tt))
    (either IsSendable (is_word word (codes "rmdir")) (rmdir_of rest) _ (mapped IsSendable _ (named_of rest) (λ _. tt))
    (either IsSendable (is_word word (codes "rename")) (rename_of rest) None (sendable-moved rest) tt)))))

sendable-by : (word rest : List ℕ) → IfSome (request_by word rest) IsSendable
sendable-by word rest =
    either IsSendable (is_word word (codes "forget")) (forget_of rest) _ (mapped IsSendable _ (pair_of rest) (λ _. tt))
    (either IsSendable (is_word word (codes "getattr")) (getattr_of rest) _ (mapped IsSendable _ (number_of rest) (λ _. tt))
    (either IsSendable (is_word word (codes "readlink")) (readlink_of rest) _ (mapped IsSendable _ (number_of rest) (λ _. tt))
    (either IsSendable (is_word word (codes "read")) (read_of rest) _ (mapped IsSendable _ (range_of rest) (λ _. tt))
    (either IsSendable (is_word word (codes "readdir")) (readdir_of rest) _ (mapped IsSendable _ (range_of rest) (λ _. tt))
    (either IsSendable (is_word word (codes "other")) (other_said rest) _
    (followed IsSendable _ (pair_of rest) (λ pair. sendable-in pair.0 pair.1)) (sendable-naming word rest))))))

-- ---- lines

asked : (o : Option Request) → IfSome o IsSendable → IfSome (option_and_then asked_by o) IsSendableLine
asked None has = tt
asked (Some request) has = here (is_ask request) where
  here : (b : Bool) → IfSome (cond b (Some (says.Ask request)) None) IsSendableLine
  here true = has
  here false = tt

sendable-ask : (words : List ℕ) → IfSome (ask_of words) IsSendableLine
sendable-ask words = asked (request_of words) (followed IsSendable _ (cut 32 words) (λ parts. sendable-by parts.0 parts.1))

sendable-line-by : (word rest : List ℕ) → IfSome (broker_line_by word rest) IsSendableLine
sendable-line-by word rest =
    either IsSendableLine (is_word word (codes "ask")) (ask_of rest) _ (sendable-ask rest)
    (either IsSendableLine (is_word word (codes "forget")) (forgets_of rest) _ (mapped IsSendableLine _ (pair_of rest) (λ _. tt))
    (either IsSendableLine (is_word word (codes "seat")) (seat_of rest) None (mapped IsSendableLine _ (number_of rest) (λ _. tt)) tt))

-- a line that says something can be sent
pub sendable-line : (line : List ℕ) → IfSome (broker_line_of line) IsSendableLine
sendable-line line =
    either IsSendableLine (is_word line (codes "idle")) (Some says.Idle) _ tt
    (either IsSendableLine (is_word line (codes "held")) (Some says.Held) _ tt
    (followed IsSendableLine _ (cut 32 line) (λ parts. sendable-line-by parts.0 parts.1)))
