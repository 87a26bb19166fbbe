mod Orderly
