use Rattle.std.proofs.Common.{◌≡◌, ◌≤◌, drop}
use Rattle.std.specs.Option.{ForSome}
use Rattle.pfs_order.specs.Private.Reading.{numeral_at, numeral_on}
use Rattle.pfs_order.proofs.scan.numeral.Given as goal

abbrev pub invariant-loop-next : goal.invariant-loop-next
invariant-loop-next l = record {
  in_range : ForSome l.number (λ n. (l.least ≤ n) × (n ≤ l.most));
  read : numeral_at l.least l.most l.end (drop l.at l.text)
      ≡ numeral_on l.least l.most l.end l.number (drop l.next l.text);
}
