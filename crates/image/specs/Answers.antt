-- What the functions of `image` answer where there may be nothing to answer. Assumes nothing.
use Rattle.std.specs.Prelude.{ℕ, ◌+◌, ◌-◌, ◌%◌, cond, List, length, ◌==◌, nat_le, nat_lt, slice_index, Option, Some, None, Result, Ok, Err}
use Rattle.refusal.specs.declared.Refusal.{Refusal}
use Rattle.refusal.specs.declared.Refusal.TheVariants.{ImageEmpty, PastTop}
use Rattle.image.specs.declared.Bounds.{Bounds}
use Rattle.image.specs.Image.{inside, byte_at}

-- where an image of this length lies: nowhere if it is empty (01's refusal 1) or if load + length - 1 > 0xFFFF (01's refusal 3)
abbrev pub place : (load size : ℕ) → Result Bounds Refusal
place load size =
    cond (size == 0) (Err ImageEmpty)
    (cond (nat_le (load + size - 1) 0xFFFF) (Ok (record { load = load; last = load + size - 1 })) (Err PastTop))

-- the next address after an instruction of n bytes at a: none past last, and so none past 0xFFFF
abbrev pub next_of : (load last a n : ℕ) → Option ℕ
next_of load last a n = cond (inside load last (a + n)) (Some (a + n)) None

-- the byte at an address of the whole memory, present where the address is inside
abbrev pub held : (image : List ℕ) (load last a : ℕ) → Option ℕ
held image load last a = cond (inside load last a) (Some (byte_at image load a)) None

-- the byte at the offset (a - load) modulo 65,536, as the Rust's `body.get(a.wrapping_sub(load))` has it
abbrev pub wrapped_byte : (image : List ℕ) (load a : ℕ) → Option ℕ
wrapped_byte image load a = cond (nat_lt ((a + 65536 - load) % 65536) (length image)) (Some (slice_index image ((a + 65536 - load) % 65536))) None

-- a + b where it is at most `most`, and a - b where it is not negative
abbrev pub sum_within : (most a b : ℕ) → Option ℕ
sum_within most a b = cond (nat_le (a + b) most) (Some (a + b)) None

abbrev pub difference : (a b : ℕ) → Option ℕ
difference a b = cond (nat_le b a) (Some (a - b)) None
