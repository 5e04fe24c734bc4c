-- The numbers that the kernel's headers give to errors and to flags.
use Rattle.std.specs.Prelude.{ℕ, ℤ, neg_ℤ, pos}

-- an error's number as a helper or a callback answers it
abbrev pub negated : ℕ → ℤ
negated number = neg_ℤ (pos number)

-- `asm-generic/errno-base.h`
abbrev pub errno_eperm : ℕ
errno_eperm = 1

abbrev pub errno_eio : ℕ
errno_eio = 5

abbrev pub errno_eagain : ℕ
errno_eagain = 11

abbrev pub errno_eacces : ℕ
errno_eacces = 13

abbrev pub errno_ebusy : ℕ
errno_ebusy = 16

abbrev pub errno_einval : ℕ
errno_einval = 22

-- `asm-generic/errno.h`
abbrev pub errno_etimedout : ℕ
errno_etimedout = 110

abbrev pub errno_einprogress : ℕ
errno_einprogress = 115

-- `linux/pm_runtime.h`
abbrev pub rpm_async : ℕ
rpm_async = 1

abbrev pub rpm_nowait : ℕ
rpm_nowait = 2

abbrev pub rpm_get_put : ℕ
rpm_get_put = 4

abbrev pub rpm_auto : ℕ
rpm_auto = 8
