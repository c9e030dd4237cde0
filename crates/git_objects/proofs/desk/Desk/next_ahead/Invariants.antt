use Rattle.std.proofs.Common.{◌≡◌, ◌+◌, length}
use Rattle.git_objects.specs.Desk.{open_from}
use Rattle.git_objects.proofs.desk.Desk.next_ahead.Given as goal

abbrev pub invariant-loop-ask : goal.invariant-loop-ask
invariant-loop-ask l =
    (open_from l.fn.self.cache.kept.entries l.fn.self.under_way.objects.items l.self.ahead.asks.items
    ≡ open_from l.fn.self.cache.kept.entries l.fn.self.under_way.objects.items l.fn.self.ahead.asks.items)
    × (length l.self.ahead.asks.items + l._ask ≡ length l.fn.self.ahead.asks.items)
    × (l.self.cache ≡ l.fn.self.cache) × (l.self.under_way ≡ l.fn.self.under_way)
    × (l.self.wants ≡ l.fn.self.wants) × (l.self.arriving ≡ l.fn.self.arriving) × (l.self.came ≡ l.fn.self.came)
