-- What a contract sees of a key: the keying that it stands for.
use Rattle.aes_block.specs.Schedule.{cipher_of}
use Rattle.esp_frame.specs.Esp.{Keying}
use Rattle.esp_frame.specs.declared.key.SealKey.{SealKey}

-- the SPI, cipher and salt of a key made ready to seal and open
abbrev pub keying_of : SealKey → Keying
keying_of k = record { spi = k.spi; cipher = cipher_of k.schedule; salt = k.salt }
