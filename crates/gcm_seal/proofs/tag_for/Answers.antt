use Rattle.std.proofs.Common.{◌++◌, ◌<◌, ◌^◌, arith, List, ℕ, []}
use Rattle.aes_block.specs.Schedule.{cipher_of}
use Rattle.gcm_seal.specs.Gcm.{all_blocks}
use Rattle.gcm_seal.proofs.Elements.{all_blocks_fit, fit_both, ghash_is, sum_of_none, tag_is}
use Rattle.gcm_seal.proofs.tag_for.Goals as goal

pub returns : goal.returns
returns c =
    let e : List ℕ → List ℕ = cipher_of c.args.k.now in
    let aad = c.args.aad.now in
    let s = c.args.sealed.now in
    let h = c.hash_key-h.result in
    let small = (let q : h < 2 ^ 128 = omega arith in q) in
    let table = c.fill_table.ensures in
    let y1 = c.absorb-first.ensures h [] small table tt (sum_of_none h) in
    let y2 = c.absorb-second.ensures h (all_blocks aad) small table (all_blocks_fit aad) y1 in
    let y3 = c.absorb-third.ensures h (all_blocks aad ++ all_blocks s) small table (fit_both aad s) y2 in
    tag_is e c.args.nonce.now aad s h c.absorb-third.result c.masked.result c.hash_key-h.ensures
    (ghash_is h c.absorb-first.result c.absorb-second.result c.absorb-third.result aad s c.length_block.result c.length_block.ensures y1 y2
    y3) c.masked.ensures
