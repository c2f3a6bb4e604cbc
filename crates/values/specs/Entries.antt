-- The order of entries: by key, and then by associate.
use Rattle.std.specs.declared.cmp.Ordering.{Ordering}
use Rattle.std.specs.Cmp.{IsTotalOrder, on_total, then_total}
use Rattle.std.specs.Ordering.{on, then_cmp}
use Rattle.value_model.proofs.Ordered.{cmp_total}
use Rattle.value_model.specs.Order.{cmp}
use Rattle.values.specs.declared.value.Entry.{Entry}
use Rattle.values.specs.Means.{val}

abbrev pub entry_cmp : Entry → Entry → Ordering
entry_cmp = then_cmp (on (λ e. val e.key) cmp) (on (λ e. val e.associate) cmp)

pub entry_total : IsTotalOrder entry_cmp
entry_total = then_total (on_total (λ e. val e.key) cmp_total) (on_total (λ e. val e.associate) cmp_total)
