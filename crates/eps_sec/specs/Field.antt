-- The field of 256 elements and the S-box (FIPS 197, sections 4 and 5.1.1). An element is a number
-- below 256, whose bit i is the coefficient of x ^ i; the modulus is x ^ 8 + x ^ 4 + x ^ 3 + x + 1.
use Rattle.std.specs.Prelude.{ℕ, zero, suc, ◌+◌, ◌-◌, ◌*◌, ◌/◌, ◌%◌, bit_xor, nat_lt, if◌then◌else◌}
use Rattle.std.specs.Prelude.{◌==◌}
use Rattle.std.specs.Int.{w8, rotate_left}

-- the product with x (4.2.1)
abbrev pub xtime : ℕ → ℕ
xtime a = if nat_lt a 128 then 2 * a else bit_xor (2 * (a - 128)) 0x1b

-- the sum of the products of a with x ^ i, for each of the n lowest bits i of b that is set
abbrev pub sum_of_products : ℕ → ℕ → ℕ → ℕ
sum_of_products zero a b = 0
sum_of_products (suc n) a b = bit_xor ((b % 2) * a) (sum_of_products n (xtime a) (b / 2))

-- the product (4.2)
unfoldable pub times : ℕ → ℕ → ℕ
times a b = sum_of_products 8 a b

-- the first of the n elements from b on whose product with a is 1, or 0 where there is none
unfoldable pub first_inverse : ℕ → ℕ → ℕ → ℕ
first_inverse a b zero = 0
first_inverse a b (suc n) = if times a b == 1 then b else first_inverse a (b + 1) n

-- the multiplicative inverse, and 0 of 0 (5.1.1, step 1)
unfoldable pub inverse : ℕ → ℕ
inverse a = first_inverse a 0 256

-- the affine map: bit i is the sum of the bits i, i + 4, i + 5, i + 6 and i + 7 modulo 8 of b, and
-- of bit i of 0x63 (5.1.1, step 2)
abbrev pub affine : ℕ → ℕ
affine b =
    bit_xor
    (bit_xor (bit_xor (bit_xor (bit_xor b (rotate_left w8 b 1)) (rotate_left w8 b 2))
    (rotate_left w8 b 3)) (rotate_left w8 b 4)) 0x63

-- the S-box (5.1.1)
unfoldable pub sub_byte : ℕ → ℕ
sub_byte a = affine (inverse a)
