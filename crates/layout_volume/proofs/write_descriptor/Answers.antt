-- `layout_volume::write_descriptor` meets its contract: zeros, and five puts over them, are the descriptor's bytes. Assumes nothing.
use Rattle.layout_volume.proofs.Writing.{too_small, unchanged, done, written}
use Rattle.layout_volume.proofs.write_descriptor.Goals as goal

pub returns-then-out-lt2048 : goal.returns-then-out-lt2048
returns-then-out-lt2048 c = record { refusal = search too_small; bytes = search unchanged }

pub returns : goal.returns
returns c =
    let room = c.if-out-lt2048.false in
    let out = c.args.out.now in record {
      refusal = done out c.args.d room;
      bytes = written out c.args.d room _ _ _ _ _ _ _ c.fill.ensures c.put_bytes.ensures c.number.ensures c.put32.ensures c.put32-2.ensures c.put64.ensures
          c.put_bytes-2.ensures;
    }
