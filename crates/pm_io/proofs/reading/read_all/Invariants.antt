-- The bytes read and then the unread ones are the file's, where it tells them.
use Rattle.std.proofs.Common.{◌≡◌, ◌+◌, ◌-◌, ◌≤◌, true, IsTrue, IsSome, vec_len, vec_capacity}
use Rattle.std.specs.Io.KnownBytes.{prepend_known}
use Rattle.pm_io.specs.Asks.{one_more}
use Rattle.pm_io.proofs.reading.read_all.Given as goal

abbrev pub invariant-loop-files : goal.invariant-loop-files
invariant-loop-files g l = record {
  started : g.F.Files.is_started l.files ≡ true;
  count : g.F.Files.place l.files ≡ vec_len l.bytes;
  within : vec_len l.bytes ≤ l.limit + 1;
  room : l.limit + 1 ≤ vec_capacity l.bytes;
  known : prepend_known l.bytes.items (g.F.Files.unread l.files) ≡ g.F.Files.told l.fn.files l.name;
  there : IsTrue g.F.Files.tells_all → IsSome (g.F.Files.told l.fn.files l.name);
  asked : IsSome (g.F.Files.told l.fn.files l.name) → g.F.Files.asked l.files ≡ one_more (g.F.Files.asked l.fn.files) l.name;
  calm : g.F.Files.faults l.files ≡ g.F.Files.faults l.fn.files;
  never_falls : g.F.Files.faults l.fn.files ≤ g.F.Files.faults l.files;
  same : g.F.Files.told l.files ≡ g.F.Files.told l.fn.files;
}

abbrev pub decreases-loop-files : goal.decreases-loop-files
decreases-loop-files g l = l.limit + 1 - vec_len l.bytes
