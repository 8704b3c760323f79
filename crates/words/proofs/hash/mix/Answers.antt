-- `mix` is `mixed`: the library's rotation by 5 is `rotated`, and the multiplication is modulo 2 ^ 64.
use Rattle.std.proofs.Common.{ap, ◌∙◌, ℕ, ◌*◌, ◌%◌, ◌^◌, bit_xor}
use Rattle.words.proofs.Bits.{rotation}
use Rattle.words.specs.Hash.{mixed, rotated}
use Rattle.words.proofs.hash.mix.Goals as goal

pub returns : goal.returns
unfolding mixed rotated
returns c =
    c.wrapping_mul.ensures
    ∙ ap (λ (x : ℕ). (bit_xor x c.args.word * 0x517cc1b727220a95) % 2 ^ 64)
    (c.rotate_left.ensures ∙ rotation c.args.hash 59 5 c.ranges.hash.fits)
